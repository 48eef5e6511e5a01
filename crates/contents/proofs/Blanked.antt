-- A frame and its blanked one: as long, and read alike.
use Rattle.std.proofs.Common.{◌≡◌, refl, sym, ap, ap₂, ◌∙◌, List, [], ◌∷◌, ◌++◌, map, ℕ, suc, ◌-◌, arith, eqb, length, get_or, take, drop, replicate, Result, Ok, Err, eqb-true, length-append, length-take}
use Rattle.std.proofs.lemmas.List.{length-replicate}
use Rattle.std.proofs.Math.Seq.{take-length, drop-length}
use Rattle.bits.specs.Pick.{pick}
use Rattle.bits.proofs.Picks.{by_test, pick_yes}
use Rattle.frames.specs.Size.{readable, fixed_size}
use Rattle.frames.specs.Read.{read_frame, frame_by_kind}
use Rattle.frames.specs.Cut.{first_length, cut_to, cut}
use Rattle.frames.proofs.CutLaws.{unfixed, cut_one, cut_none}
use Rattle.frames.specs.declared.shapes.Frame.{Frame}
use Rattle.frames.specs.declared.shapes.Frame.TheVariants.{Data}
use Rattle.refusals.specs.declared.reasons.Refusal.{Refusal}
use Rattle.refusals.specs.declared.reasons.Refusal.TheVariants.{NoFrame}
use Rattle.contents.specs.Veil.{headed, blanked}

-- a frame is as long
pub headed_long : (f : List ℕ) → length (headed f) ≡ length f
headed_long f = grind (arith, length-append, length-take, length-replicate)

-- of a data frame the reader sees the length alone
pub data_read : (l : List ℕ) → get_or l 0 0 ≡ 0x46 → read_frame l ≡ pick (readable 0x46 (length l)) (Ok (Data (length l - 4))) (Err NoFrame)
unfolding read_frame frame_by_kind
data_read l e = rw e refl

-- so of a head and zeros it sees the same
read_headed : (f : List ℕ) → get_or f 0 0 ≡ 0x46 → get_or (headed f) 0 0 ≡ 0x46 → read_frame (headed f) ≡ read_frame f
read_headed f e h =
    data_read (headed f) h ∙ ap (λ (n : ℕ). pick (readable 0x46 n) (Ok (Data (n - 4))) (Err NoFrame)) (headed_long f) ∙ sym (data_read f e)

-- a frame and its blanked one are read alike
pub read_blanked : (f : List ℕ) → read_frame (blanked f) ≡ read_frame f
unfolding blanked
read_blanked [] = refl
read_blanked (x ∷ xs) =
    by_test (λ (l : List ℕ). read_frame l ≡ read_frame (x ∷ xs)) (eqb x 0x46) (headed (x ∷ xs)) (x ∷ xs)
    (λ t. let e : x ≡ 0x46 = eqb-true x 0x46 t in read_headed (x ∷ xs) e e)
    (λ _. refl)

-- so it is blanked, whatever its kind
pub blanked_long : (f : List ℕ) → length (blanked f) ≡ length f
unfolding blanked
blanked_long f = by_test (λ (l : List ℕ). length l ≡ length f) (eqb (get_or f 0 0) 0x46) (headed f) f (λ _. headed_long f) (λ _. refl)

-- a data frame takes all that is there
pub cut_data : (x : ℕ) (xs : List ℕ) → x ≡ 0x46 → cut (x ∷ xs) ≡ (x ∷ xs) ∷ []
unfolding cut fixed_size
cut_data x xs e =
    let l : List ℕ = x ∷ xs in
    let w : first_length l ≡ length l = unfixed 0x46 l e refl in
    cut_one (length xs) l (λ z. omega arith)
    ∙ ap₂ (λ (a : List ℕ) (b : List (List ℕ)). a ∷ b) (ap (λ (n : ℕ). take n l) w ∙ take-length l)
    (ap (λ (n : ℕ). cut_to (length xs) (drop n l)) w ∙ ap (cut_to (length xs)) (drop-length l) ∙ cut_none (length xs) [] refl)

-- so what is the same of a data frame and of its head and zeros is the same of all replies, cut, and of them blanked
pub cut_by : {A : Type 0} (f : List (List ℕ) → A) → ((l : List ℕ) → get_or l 0 0 ≡ 0x46 → get_or (headed l) 0 0 ≡ 0x46 → f (headed l ∷ []) ≡ f (l ∷ [])) → (l : List ℕ) → f (cut (blanked l)) ≡ f (cut l)
unfolding blanked
cut_by f same [] = refl
cut_by f same (x ∷ xs) =
    let l : List ℕ = x ∷ xs in
    by_test (λ (k : List ℕ). f (cut k) ≡ f (cut l)) (eqb x 0x46) (headed l) l
    (λ t.
    let e : x ≡ 0x46 = eqb-true x 0x46 t in
    ap f (cut_data x (take 3 xs ++ replicate (length l - 4) 0) e) ∙ same l e e ∙ sym (ap f (cut_data x xs e)))
    (λ _. refl)

-- replies and the same blanked are cut into frames that are read alike
pub cut_blanked : (l : List ℕ) → map read_frame (cut (blanked l)) ≡ map read_frame (cut l)
cut_blanked = cut_by (map read_frame) (λ l e h. ap (λ (r : Result Frame Refusal). r ∷ []) (read_headed l e h))

-- the payload of host data is blanked away: of the head and the length alone
pub payload_blanked : (head p : List ℕ) → length head ≡ 4 → get_or head 0 0 ≡ 0x46 → blanked (head ++ p) ≡ head ++ replicate (length p) 0
unfolding blanked
payload_blanked (a ∷ b ∷ c ∷ e ∷ []) p h k =
    let n : suc (suc (suc (suc (length p)))) - 4 ≡ length p = omega arith in
    pick_yes (eqb a 0x46) _ _ (rw k refl) ∙ ap (λ (i : ℕ). a ∷ b ∷ c ∷ e ∷ replicate i 0) n
payload_blanked [] p h k = absurd (omega arith)
payload_blanked (a ∷ []) p h k = absurd (omega arith)
payload_blanked (a ∷ b ∷ []) p h k = absurd (omega arith)
payload_blanked (a ∷ b ∷ c ∷ []) p h k = absurd (omega arith)
payload_blanked (a ∷ b ∷ c ∷ e ∷ f ∷ r) p h k = absurd (omega arith)
