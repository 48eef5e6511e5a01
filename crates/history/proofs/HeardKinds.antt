-- Test 4 of a host frame by its bytes (Refused) and by what the reader answers of it.
use Rattle.std.proofs.Common.{Option, Some, None, Result, Ok, Err, ◌≡◌, refl, sym, ap, ◌∙◌, Bool, true, false, not, ◌&&◌, List, ⊎_elim, ℕ, ◌-◌, ◌%◌, arith, eqb, leb, eqb-true, length, get_or}
use Rattle.std.specs.Option.{option_map_or}
use Rattle.bits.specs.Pick.{pick}
use Rattle.bits.proofs.Picks.{tested}
use Rattle.refusals.specs.declared.reasons.Refusal.{Refusal}
use Rattle.refusals.specs.declared.reasons.Refusal.TheVariants.{NoFrame}
use Rattle.frames.specs.Size.{kind_named, allows, payload_size, readable}
use Rattle.frames.specs.declared.kinds.FrameKind.{FrameKind}
use Rattle.frames.specs.declared.kinds.FrameKind.TheVariants as kinds
use Rattle.frames.proofs.SizeLaws.{moved_byte, named_byte}
use Rattle.frames.specs.Read.{frame_of, frame_by_kind, read_frame}
use Rattle.frames.specs.declared.shapes.Frame.{Frame}
use Rattle.rules.specs.Tests.{wrong_kind}
use Rattle.history.specs.Refused.{not_heard, host_length}

-- a kind that a host sends is turned down for its length alone
sent : (b : Bool) (r : Result Frame Refusal) → wrong_kind r ≡ false → wrong_kind (pick b r (Err NoFrame)) ≡ not b
unfolding wrong_kind
sent b r e = grind arith

-- and any other always
unsent : (b : Bool) (r : Result Frame Refusal) → wrong_kind r ≡ true → wrong_kind (pick b r (Err NoFrame)) ≡ true
unfolding wrong_kind
unsent b r e = grind arith

-- a payload stands behind four bytes
payload_long : (n : ℕ) → payload_size (n - 4) ≡ leb 8 n && leb n 8196 && eqb (n % 4) 0
payload_long n =
    grind arith

-- a byte that names no kind is none of those that do
unnamed : (byte k : ℕ) (kind : FrameKind) → kind_named k ≡ Some kind → kind_named byte ≡ None → eqb byte k ≡ false
unnamed byte k kind s e = ⊎_elim (λ (t : eqb byte k ≡ true). let z : Some kind ≡ None = sym s ∙ ap kind_named (sym (eqb-true byte k t)) ∙ e in absurd (let y : ⊥ = cc in y)) (λ (f : eqb byte k ≡ false). f) (tested (eqb byte k))

-- by the byte of a kind that is named
named : (f : List ℕ) (kind : FrameKind) → kind_named (get_or f 0 0) ≡ Some kind → not (host_length (moved_byte kind) (length f)) ≡ not_heard f
named f kind e = ap (λ (k : ℕ). not (host_length k (length f))) (sym (named_byte (get_or f 0 0) kind e))

-- 4
pub kind_same : (f : List ℕ) → wrong_kind (read_frame f) ≡ not_heard f
unfolding wrong_kind read_frame readable frame_by_kind
kind_same f = go (kind_named (get_or f 0 0)) refl
  where
    go : (o : Option FrameKind) → kind_named (get_or f 0 0) ≡ o
        → wrong_kind (pick (option_map_or (λ kind. allows kind (length f)) o false) (option_map_or (λ kind. Ok (frame_of kind f)) o (Err NoFrame)) (Err NoFrame)) ≡ not_heard f
    go None e = rw (unnamed (get_or f 0 0) 0x27 kinds.HostRegister refl e, unnamed (get_or f 0 0) 0x58 kinds.BistActivate refl e, unnamed (get_or f 0 0) 0x46 kinds.Data refl e) refl
    go (Some kinds.HostRegister) e = sent _ (Ok (frame_of kinds.HostRegister f)) refl ∙ named f kinds.HostRegister e
    go (Some kinds.BistActivate) e = sent _ (Ok (frame_of kinds.BistActivate f)) refl ∙ named f kinds.BistActivate e
    go (Some kinds.Data) e = sent _ (Ok (frame_of kinds.Data f)) refl ∙ ap not (payload_long (length f)) ∙ named f kinds.Data e
    go (Some kind) e = unsent (allows kind (length f)) (Ok (frame_of kind f)) refl ∙ named f kind e
