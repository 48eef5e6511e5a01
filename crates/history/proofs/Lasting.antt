-- The medium over a whole history: at every position stands the newest byte brought there, a read sends it, and a finished write's stand until others are brought there.
use Rattle.std.proofs.Common.{Option, Some, None, ◌≡◌, refl, sym, ap, subst, ◌∙◌, Bool, true, false, List, [], ◌∷◌, ◌++◌, append-nil, map, ℕ, slice_get}
use mathlib.Core.Path.{subst⁻¹}
use Rattle.std.specs.Option.{option_or}
use Rattle.history.specs.Event.{Event}
use Rattle.history.specs.Asked.{brought}
use Rattle.history.specs.Replied.{sent}
use Rattle.history.specs.Seen.{seen}
use Rattle.history.specs.Fates.{Command, commands}
use Rattle.history.specs.Carried.{base, size}
use Rattle.history.specs.Faithful.{Ranges, Contents}
use Rattle.history.specs.Placed.{due_place}
use Rattle.history.specs.Lasting.{medium_by, HandedOn, moved_byte, newest, Stands, ReadsBack, OwnByte, ByteStands, FinishedBytes, Lasting}
use Rattle.history.proofs.Alls.{all_imp, all_both}
use Rattle.history.proofs.Lying.{sent_lies, left_lies, ends_lies}
use Rattle.history.proofs.Bytes.{get_written, or_else, sent_byte}
use Rattle.history.proofs.OwnBytes.{Each, span_each, AllOwn, own_bytes}

-- ---- what stands

-- at a position stands the newest byte that the events x brought there, or what stood there before them
stands_since : (m : List ℕ) (g x : List Event) (p : ℕ) → Contents (x ++ g) → HandedOn m (x ++ g)
    → slice_get (medium_by m (x ++ g)) p ≡ option_or (newest p x g) (slice_get (medium_by m g) p)
unfolding Contents HandedOn newest
stands_since m g [] p c k = refl
stands_since m g (e ∷ x) p c k =
    let h : List Event = x ++ g in
    ap (λ (l : List ℕ). slice_get l p) (left_lies e h c.0)
    ∙ get_written (due_place h) (brought e) e.medium p (ends_lies e h c.0)
    ∙ ap (option_or (moved_byte true p e h)) (ap (λ (l : List ℕ). slice_get l p) k.0 ∙ stands_since m g x p c.1 k.1)
    ∙ or_else (moved_byte true p e h) (newest p x g) (slice_get (medium_by m g) p)

-- the same of a history that is parted so
stands_parted : (m : List ℕ) (h x g : List Event) (p : ℕ) → h ≡ x ++ g → Contents h → HandedOn m h
    → slice_get (medium_by m h) p ≡ option_or (newest p x g) (slice_get (medium_by m g) p)
stands_parted m h x g p i c k =
    subst⁻¹ (λ (l : List Event). slice_get (medium_by m l) p ≡ option_or (newest p x g) (slice_get (medium_by m g) p)) i
    (stands_since m g x p (subst Contents i c) (subst (HandedOn m) i k))

-- of all of it
pub stands : (m : List ℕ) (h : List Event) → Contents h → HandedOn m h → Stands m h
stands m h c k p = stands_parted m h h [] p (sym (append-nil h)) c k

-- a read sends what stands
pub reads_back : (m : List ℕ) (h : List Event) → Contents h → HandedOn m h → ReadsBack m h
unfolding Contents HandedOn ReadsBack
reads_back m [] c k = tt
reads_back m (e ∷ h) c k =
    (λ p b s. sym (stands m h c.1 k.1 p) ∙ ap (λ (l : List ℕ). slice_get l p) (sym k.0) ∙ sent_byte (due_place h) e.medium (sent e) p b (sent_lies e h c.0) s, reads_back m h c.1 k.1)

-- ---- and what stands of them

tail_contents : (x g : List Event) → Contents (x ++ g) → Contents g
unfolding Contents
tail_contents [] g c = c
tail_contents (e ∷ x) g c = tail_contents x g c.1

tail_handed : (m : List ℕ) (x g : List Event) → HandedOn m (x ++ g) → HandedOn m g
unfolding HandedOn
tail_handed m [] g k = k
tail_handed m (e ∷ x) g k = tail_handed m x g k.1

tail_read : (m : List ℕ) (x g : List Event) → ReadsBack m (x ++ g) → ReadsBack m g
unfolding ReadsBack
tail_read m [] g k = k
tail_read m (e ∷ x) g k = tail_read m x g k.1

-- a byte of a command's own: written, it stands where no other was brought since; read, it stood there
byte_stands : (m : List ℕ) (h : List Event) (p : ℕ) (c : Command) → Contents h → HandedOn m h → OwnByte p c h → ByteStands m p c h
unfolding newest ReadsBack
byte_stands m h p c y k o =
    let g : List Event = o.frame ∷ o.before in
    let moved : (w : Bool) → c.accepted.asks.write ≡ w → moved_byte w p o.frame o.before ≡ Some o.byte = λ w e. subst (λ (v : Bool). moved_byte v p o.frame o.before ≡ Some o.byte) e o.moved in
    record {
      own = o;
      written = λ w.
          stands_parted m h o.since g p o.is y k
          ∙ ap (option_or (newest p o.since g))
          (stands_since m o.before (o.frame ∷ []) p (tail_contents o.since g (subst Contents o.is y)) (tail_handed m o.since g (subst (HandedOn m) o.is k))
          ∙ ap (λ (b : Option ℕ). option_or (option_or b None) (slice_get (medium_by m o.before) p)) (moved true w));
      read = λ w. (tail_read m o.since g (subst (ReadsBack m) o.is (reads_back m h y k))).0 p o.byte (moved false w);
    }

-- so of every byte of a finished command
pub finished_stands : (m : List ℕ) (h : List Event) → Contents h → Ranges (map seen h) → HandedOn m h → FinishedBytes m h
finished_stands m h y r k =
    all_imp _ _ (λ c f done p lo hi. byte_stands m h p c y k (span_each (λ q. OwnByte q c h) (base c) (size c) (subst (Each (λ q. OwnByte q c h)) (f.1.0 done) f.0) p lo hi))
    (commands (map seen h)) (all_both (AllOwn h) _ (commands (map seen h)) (own_bytes h y) r)

-- the medium over a whole history
pub lasting : (m : List ℕ) (h : List Event) → Contents h → Ranges (map seen h) → HandedOn m h → Lasting m h
lasting m h y r k = record { stands = stands m h y k; reads = reads_back m h y k; finished = finished_stands m h y r k }
