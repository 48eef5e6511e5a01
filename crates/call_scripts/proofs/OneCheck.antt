-- Named scripts that are all read have one text, and one thing is found in them.
use Rattle.std.proofs.Common.{◌≡◌, ℕ, List, [], ◌∷◌, ◌++◌, map, unwrap_or, append-nil, All, fold, Option, Some, Result, Ok, Err, refl, sym, subst, ap, ap₂, ◌∙◌, arith}
use Rattle.std.specs.declared.io.Error.{Error}
use Rattle.std.proofs.lemmas.List.Elements.{All-head, All-tail}
use Rattle.events.proofs.Cuts.{appended}
use Rattle.call_scripts.specs.CheckEnds.{HasCheckedAll}
use Rattle.call_scripts.specs.Found.{both, sum_of, nothing_found, last_line}
use Rattle.call_scripts.specs.Named.{Named, MayHold, MayCome, LookedAt, named_found, all_text, all_found}
use Rattle.call_scripts.specs.declared.found.Found.{Found}

abbrev name_in : Named → List ℕ
name_in n = n.name

abbrev with : Found → Named → Found
with found n = both found (named_found n.came)

-- none is unread behind some, so none was before them
none_before : (found : Found) (named : List Named) → (fold with found named).unread ≡ 0 → found.unread ≡ 0
none_before found [] h = h
none_before found (n ∷ named) h = let s = none_before (with found n) named h in grind arith

-- what came is a script
read_by : (a : ℕ) (came : Result (List ℕ) (List ℕ)) → sum_of a (named_found came).unread ≡ 0 → (script : List ℕ) × (came ≡ Ok script)
read_by a (Ok script) h = (script, refl)
read_by a (Err why) h = absurd (grind arith)

-- and the one that is known
known_by : (held : Option (Option (List ℕ))) (script came : List ℕ) → held ≡ Some (Some script) → MayHold held came → came ≡ script
known_by held script came e m =
    let h : Some script ≡ Some came = subst (λ (o : Option (Option (List ℕ))). MayHold o came) e m in
    ap (λ (o : Option (List ℕ)). unwrap_or o script) (sym h)

came_by : (held : Option (Option (List ℕ))) (script : List ℕ) (a : ℕ) (came : Result (List ℕ) (List ℕ)) → held ≡ Some (Some script) → MayCome held came → sum_of a (named_found came).unread ≡ 0 → came ≡ Ok script
came_by held script a (Ok came) e m h = ap Ok (known_by held script came e m)
came_by held script a (Err why) e m h = absurd (grind arith)

head_is : (a b : List ℕ) (xs ys : List (List ℕ)) → a ∷ xs ≡ b ∷ ys → a ≡ b
head_is a b xs ys e = cc

tail_is : (a b : List ℕ) (xs ys : List (List ℕ)) → a ∷ xs ≡ b ∷ ys → xs ≡ ys
tail_is a b xs ys e = cc

module _ (holds : List ℕ → Option (Option (List ℕ))) where
  abbrev Known : List ℕ → Type 0
  Known name = (script : List ℕ) × (holds name ≡ Some (Some script))

  abbrev May : Named → Type 0
  May n = MayCome (holds n.name) n.came

  same_named : (x y : List Named) (f g : Found) → map name_in x ≡ map name_in y → All Known (map name_in x) → All May x → All May y → (fold with f x).unread ≡ 0 → (fold with g y).unread ≡ 0 → x ≡ y
  same_named [] [] f g e k p q h i = refl
  same_named [] (m ∷ y) f g e k p q h i = absurd (cc)
  same_named (n ∷ x) [] f g e k p q h i = absurd (cc)
  same_named (n ∷ x) (m ∷ y) f g e k p q h i =
      let names = head_is n.name m.name (map name_in x) (map name_in y) e in
      let known = All-head Known n.name (map name_in x) k in
      let left : n.came ≡ Ok known.0 = came_by (holds n.name) known.0 f.unread n.came known.1 (All-head May n x p) (none_before (with f n) x h) in
      let right : m.came ≡ Ok known.0 = came_by (holds m.name) known.0 g.unread m.came (ap holds (sym names) ∙ known.1) (All-head May m y q) (none_before (with g m) y i) in
      let one : n ≡ m = ap₂ (λ (a : List ℕ) (b : Result (List ℕ) (List ℕ)). let r : Named = record { name = a; came = b } in r) names (left ∙ sym right) in
      let rest = same_named x y (with f n) (with g m) (tail_is n.name m.name (map name_in x) (map name_in y) e) (All-tail Known n.name (map name_in x) k) (All-tail May n x p) (All-tail May m y q) h i in
      ap₂ (λ (a : Named) (l : List Named). a ∷ l) one rest

  order_by : (names others : List (List ℕ)) (named : List Named) → LookedAt holds names named others → others ≡ [] → names ≡ map name_in named
  order_by names others named l e = l.order ∙ ap (λ (o : List (List ℕ)). map name_in named ++ o) e ∙ append-nil (map name_in named)

  pub checked_once : (names : List (List ℕ)) (old : List ℕ) (new new' errors errors' errors'' : Option (List ℕ)) (found found' : Found) (said said' : Result Unit Error)
      → All Known names → found.unread ≡ 0 → found'.unread ≡ 0
      → HasCheckedAll holds names (Some old) new errors errors' (record { run = Ok found; said = said }) → HasCheckedAll holds names (Some old) new' errors errors'' (record { run = Ok found'; said = said' }) → (new ≡ new') × (found ≡ found')
  checked_once names old new new' errors errors' errors'' found found' said said' k u u' a b =
      let left = order_by names a.1 a.0 a.2 a.3.0 in
      let right = order_by names b.1 b.0 b.2 b.3.0 in
      let same : a.0 ≡ b.0 = same_named a.0 b.0 nothing_found nothing_found (sym left ∙ right) (subst (All Known) left k) a.2.each b.2.each (ap (λ (f : Found). f.unread) (sym a.3.1) ∙ u) (ap (λ (f : Found). f.unread) (sym b.3.1) ∙ u') in
      let sum : found ≡ found' = a.3.1 ∙ ap all_found same ∙ sym b.3.1 in
      (appended old _ _ new new' (ap₂ (λ (n : List Named) (f : Found). all_text n ++ last_line f) same sum) a.3.2 b.3.2, sum)
