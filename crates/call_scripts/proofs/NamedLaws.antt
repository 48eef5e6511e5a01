-- Where a check of named scripts stands behind those that were looked at, and how it ends.
use Rattle.std.proofs.Common.{◌≡◌, ℕ, suc, ◌+◌, ◌<◌, ◌≤◌, List, [], ◌∷◌, ◌++◌, length, get_or, take, drop, map, append-nil, append_assoc, take_all, take-append-drop, drop-cons, Option, Result, Ok, Err, IsErr, IsErrAnd, inl, inr, refl, sym, subst, ap, ap₂, ◌∙◌}
use mathlib.Core.Bool.{false≢true}
use Rattle.std.proofs.lemmas.Grind.{fold-append}
use Rattle.std.proofs.lemmas.List.{map_more, map-append, flat_map_more}
use Rattle.std.proofs.lemmas.List.Elements.{All-nil, All-cons, All-append}
use Rattle.std.proofs.KnownBytes.{Appends-nil, Appends-trans, Appends-kept}
use Rattle.std.specs.Borrow.{Bor}
use Rattle.std.specs.Io.KnownBytes.{Appends, Keeps}
use Rattle.streams.specs.Fronts.{AppendsSome}
use Rattle.streams.proofs.Fronts.{front_then, some_then}
use Rattle.events.proofs.Fronts.{front_first, loses_then}
use Rattle.events.specs.Output.{Loses}
use Rattle.events.specs.declared.errors.RunError.{RunError}
use Rattle.events.specs.declared.errors.RunError.TheVariants.{Input, Output, Memory, TooMany}
use Rattle.events.specs.Runs.{Said}
use Rattle.call_scripts.specs.CheckEnds.{HasCome, LosesOne, LosesAll, LookedAtAll, HasLookedAt, HasWritten, HasCheckedAll, last_behind, said_last}
use Rattle.call_scripts.specs.Found.{both, nothing_found, last_line}
use Rattle.call_scripts.specs.Named.{Named, MayCome, LookedAt, named_text, named_said, named_found, all_text, all_said, all_found}
use Rattle.call_scripts.specs.declared.check_ends.CheckEnd.{CheckEnd}
use Rattle.call_scripts.specs.declared.found.Found.{Found}

-- a text is lost before its last line is begun
lost_before : (e : RunError) (a b : Option (List ℕ)) (text last : List ℕ) → Loses e a b text → LosesAll e a b text last
lost_before (Input x) a b text last l = l
lost_before (Output x) a b text last l = front_first a b text last l
lost_before Memory a b text last l = l
lost_before TooMany a b text last l = l

-- or is written, and the last line is lost
lost_behind : (e : RunError) (a b c : Option (List ℕ)) (text last : List ℕ) → Appends a b text → LosesAll e b c [] last → LosesAll e a c text last
lost_behind (Input x) a b c text last p l = l
lost_behind (Output x) a b c text last p l = front_then a b c text last p l
lost_behind Memory a b c text last p l = subst (AppendsSome a c) (append-nil text) (some_then a b c text [] p l)
lost_behind TooMany a b c text last p l = l

abbrev text_by : Named → List ℕ
text_by n = named_text n.name n.came

abbrev said_by : Named → List ℕ
said_by n = named_said n.name n.came

-- before the first of them
pub none_looked_at : (holds : List ℕ → Option (Option (List ℕ))) (old : Option (List ℕ)) (said : List ℕ) → LookedAtAll holds [] old old said said nothing_found
none_looked_at holds old said = record { named = []; looked = record { order = refl; each = All-nil (λ (m : Named). MayCome (holds m.name) m.came) }; sum = refl; written = Appends-nil old; gathered = sym (append-nil said) }

module _ {holds : List ℕ → Option (Option (List ℕ))} {names : List (List ℕ)} {a b : Option (List ℕ)} {said said' : List ℕ} {found : Found} (p : LookedAtAll holds names a b said said' found) where
  before : (others : List (List ℕ)) → names ++ others ≡ map (λ (m : Named). m.name) p.named ++ others
  before others = ap (λ (l : List (List ℕ)). l ++ others) (p.looked.order ∙ append-nil (map (λ (m : Named). m.name) p.named))

  -- one more is looked at
  with_one : (name : List ℕ) (came : Result (List ℕ) (List ℕ)) (others : List (List ℕ)) → MayCome (holds name) came → LookedAt holds (names ++ name ∷ others) (p.named ++ record { name = name; came = came } ∷ []) others
  with_one name came others may =
      let n : Named = record { name = name; came = came } in
      record {
        order = before (name ∷ others) ∙ sym (append_assoc (map (λ (m : Named). m.name) p.named) (name ∷ []) others) ∙ ap (λ (l : List (List ℕ)). l ++ others) (sym (map-append (λ (m : Named). m.name) p.named (n ∷ [])));
        each = All-append (λ (m : Named). MayCome (holds m.name) m.came) p.named (n ∷ []) p.looked.each (All-cons (λ (m : Named). MayCome (holds m.name) m.came) n [] may (All-nil (λ (m : Named). MayCome (holds m.name) m.came)));
      }

  pub one_more : (c : Option (List ℕ)) (name : List ℕ) (said'' : List ℕ) (more : Found) → HasCome (holds name) name b c said' said'' more → LookedAtAll holds (names ++ name ∷ []) a c said said'' (both found more)
  one_more c name said'' more q =
      let n : Named = record { name = name; came = q.0 } in
      record {
        named = p.named ++ n ∷ [];
        looked = with_one name q.0 [] q.1;
        sum = ap₂ both p.sum q.2 ∙ sym (fold-append (λ (f : Found) (m : Named). both f (named_found m.came)) nothing_found p.named (n ∷ []));
        written = subst (Appends a c) (flat_map_more text_by [] p.named n) (Appends-trans a b c (all_text p.named) (text_by n) p.written q.3);
        gathered = q.4 ∙ ap (λ (l : List ℕ). l ++ said_by n) p.gathered ∙ flat_map_more said_by said p.named n;
      }

  -- what is told of one is lost
  pub one_lost : (c : Option (List ℕ)) (name : List ℕ) (others : List (List ℕ)) (e : RunError) → LosesOne (holds name) name e b c → HasLookedAt holds (names ++ name ∷ others) a c said said' (Err e)
  one_lost c name others e (inl l) =
      let n : Named = record { name = name; came = Ok l.0 } in (
        p.named ++ n ∷ [],
        others,
        with_one name (Ok l.0) others l.1,
        subst (Loses e a c) (flat_map_more text_by [] p.named n) (loses_then e a b c (all_text p.named) (text_by n) p.written l.2),
        p.gathered ∙ sym (append-nil (said ++ all_said p.named)) ∙ flat_map_more said_by said p.named n,
      )
  one_lost c name others e (inr l) = (
    p.named,
    name ∷ others,
    record { order = before (name ∷ others); each = p.looked.each },
    subst (Loses e a c) (append-nil (all_text p.named)) (loses_then e a b c (all_text p.named) [] p.written l),
    p.gathered,
  )

  -- all of them are written, and the last line
  pub last_written : (c : Option (List ℕ)) → Appends b c (last_line found) → HasWritten holds names a c said said' (Ok found)
  last_written c l = (p.named, [], p.looked, (refl, p.sum, Appends-trans a b c (all_text p.named) (last_line found) p.written l), p.gathered)

  -- or that is lost
  pub last_lost : (c : Option (List ℕ)) (e : RunError) → LosesAll e b c [] (last_line found) → HasWritten holds names a c said said' (Err e)
  last_lost c e l = (p.named, [], p.looked, subst (λ (f : Found). LosesAll e a c (all_text p.named) (last_line f)) p.sum (lost_behind e a b c (all_text p.named) (last_line found) p.written l), p.gathered)

abbrev name_of : Bor (List ℕ) → List ℕ
name_of name = name.now

module _ {holds : List ℕ → Option (Option (List ℕ))} (names : List (Bor (List ℕ))) (i : ℕ) (d : Bor (List ℕ)) {a b : Option (List ℕ)} {said said' : List ℕ} {found : Found}
    (p : LookedAtAll holds (map name_of (take i names)) a b said said' found) where
  pub next_looked_at : (c : Option (List ℕ)) (said'' : List ℕ) (more : Found) → i < length names → HasCome (holds (name_of (get_or names i d))) (name_of (get_or names i d)) b c said' said'' more
      → LookedAtAll holds (map name_of (take (i + 1) names)) a c said said'' (both found more)
  next_looked_at c said'' more h q =
      subst (λ (ns : List (List ℕ)). LookedAtAll holds ns a c said said'' (both found more)) (sym (map_more name_of names i d h)) (one_more p c (name_of (get_or names i d)) said'' more q)

  parts : i < length names → map name_of names ≡ map name_of (take i names) ++ name_of (get_or names i d) ∷ map name_of (drop (suc i) names)
  parts h = ap (map name_of) (sym (take-append-drop i names) ∙ ap (λ (l : List (Bor (List ℕ))). take i names ++ l) (drop-cons names i d h)) ∙ map-append name_of (take i names) (get_or names i d ∷ drop (suc i) names)

  pub next_lost : (c : Option (List ℕ)) (e : RunError) → i < length names → LosesOne (holds (name_of (get_or names i d))) (name_of (get_or names i d)) e b c → HasLookedAt holds (map name_of names) a c said said' (Err e)
  next_lost c e h l = subst (λ (ns : List (List ℕ)). HasLookedAt holds ns a c said said' (Err e)) (sym (parts h)) (one_lost p c (name_of (get_or names i d)) (map name_of (drop (suc i) names)) e l)

  pub all_looked_at : length names ≤ i → LookedAtAll holds (map name_of names) a b said said' found
  all_looked_at h = subst (λ (ns : List (Bor (List ℕ))). LookedAtAll holds (map name_of ns) a b said said' found) (take_all i names h) p

-- an error that is handed on
pub looked_handed : (holds : List ℕ → Option (Option (List ℕ))) (names : List (List ℕ)) (a b : Option (List ℕ)) (said said' : List ℕ) (r : Result Found RunError) (e : RunError) → IsErr r → IsErrAnd r (λ x. x ≡ e)
    → HasLookedAt holds names a b said said' (Err e) → HasLookedAt holds names a b said said' r
looked_handed holds names a b said said' (Ok f) e i h l = absurd (false≢true i)
looked_handed holds names a b said said' (Err x) e i h l = subst (λ (y : RunError). HasLookedAt holds names a b said said' (Err y)) (sym h) l

written_lost : (holds : List ℕ → Option (Option (List ℕ))) (names : List (List ℕ)) (a b : Option (List ℕ)) (said said' : List ℕ) (e : RunError)
    → HasLookedAt holds names a b said said' (Err e) → HasWritten holds names a b said said' (Err e)
written_lost holds names a b said said' e p = (p.0, p.1, p.2, lost_before e a b (all_text p.0) (last_behind p.1 (all_found p.0)) p.3, p.4)

pub written_handed : (holds : List ℕ → Option (Option (List ℕ))) (names : List (List ℕ)) (a b : Option (List ℕ)) (said said' : List ℕ) (r : Result Found RunError) (e : RunError) → IsErr r → IsErrAnd r (λ x. x ≡ e)
    → HasLookedAt holds names a b said said' (Err e) → HasWritten holds names a b said said' r
written_handed holds names a b said said' (Ok f) e i h l = absurd (false≢true i)
written_handed holds names a b said said' (Err x) e i h l = written_lost holds names a b said said' x (subst (λ (y : RunError). HasLookedAt holds names a b said said' (Err y)) (sym h) l)

-- where a last line is not even begun, or fails
pub last_handed : (holds : List ℕ → Option (Option (List ℕ))) (names : List (List ℕ)) (a b c : Option (List ℕ)) (said said' : List ℕ) (found : Found) (r : Result Found RunError) (e : RunError) → IsErr r → IsErrAnd r (λ x. x ≡ e)
    → LookedAtAll holds names a b said said' found → LosesAll e b c [] (last_line found) → HasWritten holds names a c said said' r
last_handed holds names a b c said said' found (Ok f) e i h p l = absurd (false≢true i)
last_handed holds names a b c said said' found (Err x) e i h p l = last_lost p c x (subst (λ (y : RunError). LosesAll y b c [] (last_line found)) (sym h) l)

-- what is said behind what was
pub said_then : {E : Type 0} (a b c : Option (List ℕ)) (s t : List ℕ) (r : Result Unit E) → Appends a b s → Said t b c r → Said (s ++ t) a c r
said_then a b c s t (Ok u) p q = Appends-trans a b c s t p q
said_then a b c s t (Err e) p q = front_then a b c s t p q

-- nothing is written where nothing is known to have changed
pub kept_none : (a b : Option (List ℕ)) → Keeps a b → Appends a b []
kept_none a b k = Appends-kept a a b [] (Appends-nil a) k

-- the whole check
pub all_checked : (holds : List ℕ → Option (Option (List ℕ))) (names : List (List ℕ)) (old new errors errors' : Option (List ℕ)) (none said : List ℕ) (end : CheckEnd) → none ≡ [] → HasWritten holds names old new none said end.run
    → Said (said ++ said_last end.run) errors errors' end.said → HasCheckedAll holds names old new errors errors' end
all_checked holds names old new errors errors' none said end n p s =
    (p.0, p.1, p.2, p.3, subst (λ (l : List ℕ). Said (l ++ said_last end.run) errors errors' end.said) (p.4 ∙ ap (λ (l : List ℕ). l ++ all_said p.0) n) s)
