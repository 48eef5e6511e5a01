-- Lines that are gathered: a text more, and what is passed on.
use Rattle.std.proofs.Common.{◌≡◌, ℕ, ◌<◌, ◌≤◌, min, Bool, true, false, List, [], ◌++◌, Option, length, take, take_all, ⊎_elim, drop, sym, ap, subst, ◌∙◌, append_assoc, append-nil, arith, length-append, length-drop, take-append-drop}
use Rattle.std.specs.Io.KnownBytes.{Appends}
use Rattle.std.proofs.KnownBytes.{Appends-trans}
use Rattle.std.proofs.lemmas.Bool.{cases_lt}
use Rattle.streams.specs.Fronts.{AppendsFront}
use Rattle.streams.proofs.Fronts.{front_of, front_then}
use Rattle.streams.specs.Gathered.{Gathering, gathering, Gathered, Pushes}

-- a front of a text is a front of a longer one
pub front_longer : (a b : Option (List ℕ)) (s t : List ℕ) → AppendsFront a b s → AppendsFront a b (s ++ t)
front_longer a b s t f =
    front_of a b (take f.0 s) (drop f.0 s ++ t) (s ++ t) (ap (λ (l : List ℕ). l ++ t) (sym (take-append-drop f.0 s)) ∙ append_assoc (take f.0 s) (drop f.0 s) t)
    (omega (arith, f.1, length-append (drop f.0 s) t, length-drop f.0 s)) f.2

-- one text behind the other
pub pushes_then : {a b c : Gathering} {s t : List ℕ} → Pushes a b s → Pushes b c t → Pushes a c (s ++ t)
pushes_then {c = c} {s = s} {t = t} p q = record { goes = λ base text g. subst (λ (l : List ℕ). Gathered base l c) (append_assoc text s t) (q.goes base (text ++ s) (p.goes base text g)) }

-- no text
pub pushes_none : (a : Gathering) → Pushes a a []
pushes_none a = record { goes = λ base text g. subst (λ (l : List ℕ). Gathered base l a) (sym (append-nil text)) g }

-- behind a text that stands behind others another was held
pub held_more : (w : Option (List ℕ)) (h more h' : List ℕ) (failed : Bool) → h' ≡ h ++ more → Pushes (gathering w h failed) (gathering w h' failed) more
held_more w h more h' false e = record { goes = λ base text g. (g.0, g.1, ap (λ (l : List ℕ). l ++ more) g.2 ∙ append_assoc g.0 h more ∙ ap (λ (l : List ℕ). g.0 ++ l) (sym e)) }
held_more w h more h' true e = record { goes = λ base text g. front_longer base w text more g }

-- a write failed before
pub lost_more : (w : Option (List ℕ)) (h h' more : List ℕ) → Pushes (gathering w h true) (gathering w h' true) more
lost_more w h h' more = record { goes = λ base text g. front_longer base w text more g }

-- what was held is written
pub passed : (w w' : Option (List ℕ)) (h : List ℕ) → Appends w w' h → Pushes (gathering w h false) (gathering w' [] false) []
passed w w' h p = record { goes = λ base text g. (g.0 ++ h, Appends-trans base w w' g.0 h g.1 p, ap (λ (l : List ℕ). l ++ []) g.2) }

-- or not all of it
pub passed_front : (w w' : Option (List ℕ)) (h h' more : List ℕ) → AppendsFront w w' (h ++ more) → Pushes (gathering w h false) (gathering w' h' true) more
passed_front w w' h h' more f = record { goes = λ base text g. subst (AppendsFront base w') (sym (append_assoc g.0 h more) ∙ ap (λ (l : List ℕ). l ++ more) (sym g.2)) (front_then base w w' g.0 (h ++ more) g.1 f) }

-- a text was written past the room
pub past : (w w' : Option (List ℕ)) (more : List ℕ) → Appends w w' more → Pushes (gathering w [] false) (gathering w' [] false) more
past w w' more p = record { goes = λ base text g. (g.0 ++ more, Appends-trans base w w' g.0 more g.1 p, ap (λ (l : List ℕ). l ++ more) (g.2 ∙ append-nil g.0) ∙ sym (append-nil (g.0 ++ more))) }

-- the same by what the flags are
pub held_front : {w w' : Option (List ℕ)} {h h' more text : List ℕ} {f f' : Bool} → f ≡ false → f' ≡ true → text ≡ h ++ more → AppendsFront w w' text → Pushes (gathering w h f) (gathering w' h' f') more
held_front {w} {w'} {h} {h'} {more} f f' e p = rw (f, f') (passed_front w w' h h' more (subst (AppendsFront w w') e p))

pub past_room : {w w' : Option (List ℕ)} {h h' more : List ℕ} {f f' : Bool} → f ≡ false → f' ≡ false → h ≡ [] → h' ≡ [] → Appends w w' more → Pushes (gathering w h f) (gathering w' h' f') more
past_room {w} {w'} {more = more} f f' h h' p = rw (f, f', h, h') (past w w' more p)

-- of a room no more is held than it has
pub take_room : (n m : ℕ) (l : List ℕ) → length l ≡ 51200 → m ≡ min n 51200 → take m l ≡ take n l
take_room n m l long e = ⊎_elim (λ (h : n < 51200). ap (λ (k : ℕ). take k l) (omega (arith, e, h))) (λ (h : 51200 ≤ n). take_all m l (omega (arith, e, h, long)) ∙ sym (take_all n l (omega (arith, h, long)))) (cases_lt n 51200)
