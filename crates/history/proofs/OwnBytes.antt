-- Each position that a command carried is that of a byte which one data frame of its own moved.
use Rattle.std.proofs.Common.{Option, Some, ◌≡◌, refl, sym, ap, subst, ◌∙◌, Bool, true, false, not, ⊎_elim, List, [], ◌∷◌, ◌++◌, map, ℕ, zero, suc, ◌+◌, ◌≤◌, ◌<◌, add-zero, eq-or-lt_of_le, arith, eqb, get_or, length, find}
use mathlib.Core.Path.{subst⁻¹}
use mathlib.Core.Bool.{false≢true}
use Rattle.std.specs.Option.{option_map_or}
use Rattle.bits.specs.Pick.{pick}
use Rattle.bits.proofs.Picks.{tested, by_test, and_right}
use Rattle.history.specs.Event.{Event}
use Rattle.history.specs.Seen.{Seen, seen, Transfer, no_transfer, under_way}
use Rattle.history.specs.Fates.{Command, later, commands, own_tag, outstanding, one, how_many, All}
use Rattle.history.specs.Carried.{load, transfer, span, base, belongs, positions, carried_at, carried}
use Rattle.history.specs.Faithful.{Owned, Moves, Contents}
use Rattle.history.specs.Placed.{owns, owner_in_transfer, place_in_transfer, due_place, byte_at}
use Rattle.history.specs.Lasting.{data_moved, OwnByte}
use Rattle.history.proofs.Alls.{all_imp, all_both, all_any, all_step, all_start}
use Rattle.history.proofs.Lying.{brought_long}
use Rattle.history.proofs.Bytes.{byte_there}

-- a fact of each of some positions
unfoldable pub Each : (ℕ → Type 0) → List ℕ → Type 0
Each P [] = Unit
Each P (p ∷ l) = P p × Each P l

each_append : (P : ℕ → Type 0) (l r : List ℕ) → Each P l → Each P r → Each P (l ++ r)
unfolding Each
each_append P [] r a b = b
each_append P (p ∷ l) r a b = (a.0, each_append P l r a.1 b)

each_imp : (P Q : ℕ → Type 0) → ((p : ℕ) → P p → Q p) → (l : List ℕ) → Each P l → Each Q l
unfolding Each
each_imp P Q f [] a = tt
each_imp P Q f (p ∷ l) a = (f p a.0, each_imp P Q f l a.1)

-- of n positions from a on
each_span : (P : ℕ → Type 0) (a n : ℕ) → ((i : ℕ) → i < n → P (a + i)) → Each P (span a n)
unfolding Each span
each_span P a zero f = tt
each_span P a (suc n) f = (subst P (add-zero a) (f 0 (omega arith)), each_span P (suc a) n (λ i k. subst P (let e : a + suc i ≡ suc a + i = omega arith in e) (f (suc i) (omega (arith, k)))))

pub span_each : (P : ℕ → Type 0) (a n : ℕ) → Each P (span a n) → (p : ℕ) → a ≤ p → p < a + n → P p
unfolding Each span
span_each P a zero f p x y = absurd (omega (arith, x, y))
span_each P a (suc n) f p x y =
    ⊎_elim (λ (k : a ≡ p). subst P k f.0) (λ (k : a < p). span_each P (suc a) n f.1 p (omega (arith, k)) (omega (arith, y))) (eq-or-lt_of_le x)

-- none of a list is so
none_so : (q : Command → Bool) (cs : List Command) → how_many q cs ≡ 0 → All (λ c. q c ≡ true → ⊥) cs
unfolding how_many All
none_so q [] o = tt
none_so q (c ∷ cs) o = (λ y. absurd (omega (arith, o, ap one y)), none_so q cs (omega (arith, o)))

-- if just one is so, it is found
one_found : (q : Command → Bool) (cs : List Command) → how_many q cs ≡ 1 → All (λ c. q c ≡ true → find q cs ≡ Some c) cs
unfolding how_many All
one_found q [] o = tt
one_found q (c ∷ cs) o =
    ⊎_elim
    (λ (y : q c ≡ true). rw y (λ _. refl, all_imp _ _ (λ b n z. absurd (n z)) cs (none_so q cs (omega (arith, o, ap one y)))))
    (λ (n : q c ≡ false).
    let s : find q (c ∷ cs) ≡ find q cs = rw n refl in
    (λ z. absurd (false≢true (sym n ∙ z)), all_imp _ _ (λ b k z. s ∙ k z) cs (one_found q cs (omega (arith, o, ap one n)))))
    (tested (q c))

-- a command that owns what is under way is the one found
abbrev IsOwner : List Command → Transfer → Command → Type 0
IsOwner cs no_transfer c = Unit
IsOwner cs (under_way d t a z) c = owns d t c ≡ true → find (owns d t) cs ≡ Some c

owner_found : (cs : List Command) (x : Transfer) → Owned x cs → All (IsOwner cs x) cs
owner_found cs no_transfer o = all_any (IsOwner cs no_transfer) (λ c. tt) cs
owner_found cs (under_way d t a z) o = one_found (owns d t) cs o

-- data of a write are the host's, of a read the device's
way : (w d : Bool) → pick w (not d) d ≡ true → d ≡ not w
way w d b = grind arith

-- and as many as are carried
moved_long : (w : Bool) (e : Event) → load (not w) (seen e) ≡ length (data_moved w e)
unfolding seen
moved_long true e = brought_long e
moved_long false e = refl

module _ (e : Event) (h : List Event) (m : Moves e (map seen h)) where
  -- each byte of a data frame is the own of the command that it belongs to
  frame_own : (c : Command) → outstanding c ≡ true → (x : Transfer) → transfer (map seen h) ≡ x → IsOwner (commands (map seen h)) x c
      → Each (λ p. OwnByte p (later (seen e) c) (e ∷ h)) (positions (base c) c.accepted.asks.write (own_tag c) (seen e) x)
  unfolding Each
  frame_own c o no_transfer u f = tt
  frame_own c o (under_way d t a z) u f =
      by_test (Each (λ p. OwnByte p (later (seen e) c) (e ∷ h))) (belongs c.accepted.asks.write (own_tag c) d t) (span (base c + a) (load d (seen e))) [] byte (λ _. tt)
    where
      byte : belongs c.accepted.asks.write (own_tag c) d t ≡ true → Each (λ p. OwnByte p (later (seen e) c) (e ∷ h)) (span (base c + a) (load d (seen e)))
      byte b =
          let y : owns d t c ≡ true = rw (o, b) refl in
          let w : Bool = c.accepted.asks.write in
          let long : load d (seen e) ≡ length (data_moved w e) = ap (λ (v : Bool). load v (seen e)) (way w d (and_right (eqb t (own_tag c)) _ b)) ∙ moved_long w e in
          let there : due_place h ≡ base c + a = ap (place_in_transfer (commands (map seen h))) u ∙ ap (λ (k : Option Command). option_map_or base k 0 + a) (f y) in
          each_span (λ p. OwnByte p (later (seen e) c) (e ∷ h)) (base c + a) (load d (seen e)) (λ i k. record {
            since = [];
            frame = e;
            before = h;
            is = refl;
            followed = c.after;
            own = ap (owner_in_transfer (commands (map seen h))) u ∙ f y;
            after = refl;
            byte = get_or (data_moved w e) i 0;
            moved = subst⁻¹ (λ (at : ℕ). byte_at at (data_moved w e) (base c + a + i) ≡ Some (get_or (data_moved w e) i 0)) there (byte_there (base c + a) i (data_moved w e) (omega (arith, k, long)));
          })

-- and stays so an event later
own_later : (e : Event) (h : List Event) (c : Command) (p : ℕ) → OwnByte p c h → OwnByte p (later (seen e) c) (e ∷ h)
own_later e h c p o = record {
  since = e ∷ o.since;
  frame = o.frame;
  before = o.before;
  is = ap (λ (l : List Event). e ∷ l) o.is;
  followed = o.followed;
  own = o.own;
  after = ap (λ (l : List Seen). seen e ∷ l) o.after;
  byte = o.byte;
  moved = o.moved;
}

-- the positions that a command carried, each with a byte of its own
abbrev pub AllOwn : List Event → Command → Type 0
AllOwn h c = Each (λ p. OwnByte p c h) (carried c)

pub own_bytes : (h : List Event) → Contents h → All (AllOwn h) (commands (map seen h))
unfolding Contents Each carried_at
own_bytes [] c = all_start (AllOwn [])
own_bytes (e ∷ h) c =
    let cs : List Command = commands (map seen h) in
    let m : Moves e (map seen h) = c.0 in
    all_step (AllOwn (e ∷ h)) _ (seen e) (map seen h) (λ _. tt) (λ y k. old m y k.0 k.1.0 k.1.1)
    (all_both (AllOwn h) _ cs (own_bytes h c.1) (all_both (λ y. transfer y.after ≡ transfer (map seen h)) (IsOwner cs (transfer (map seen h))) cs m.since (owner_found cs (transfer (map seen h)) m.owned)))
  where
    old : (m : Moves e (map seen h)) (y : Command) → AllOwn h y → transfer y.after ≡ transfer (map seen h) → IsOwner (commands (map seen h)) (transfer (map seen h)) y → AllOwn (e ∷ h) (later (seen e) y)
    old m y k s f =
        let P : ℕ → Type 0 = λ p. OwnByte p (later (seen e) y) (e ∷ h) in
        each_append P (carried y) _ (each_imp (λ p. OwnByte p y h) P (own_later e h y) (carried y) k)
        (by_test (Each P) (outstanding y) (positions (base y) y.accepted.asks.write (own_tag y) (seen e) (transfer y.after)) []
        (λ o. subst⁻¹ (λ (x : Transfer). Each P (positions (base y) y.accepted.asks.write (own_tag y) (seen e) x)) s (frame_own e h m y o (transfer (map seen h)) refl f)) (λ _. tt))
