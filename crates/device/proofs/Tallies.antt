-- A link tally does what as many link events would do, in any order, and is refused where one of them would be.
use Rattle.std.proofs.Common.{Some, None, Ok, ◌≡◌, refl, sym, ap, ◌∙◌, Bool, true, false, List, [], ◌∷◌, ⊎_elim, ℕ, zero, suc, ◌+◌, ◌≤◌, ◌<◌, arith, eqb, eq-eqb, length, get_or, ext_get_or}
use mathlib.Core.Bool.{false≢true}
use mathlib.Core.Path.{subst⁻¹}
use lib.ListN.{get_or-eq_default}
use Rattle.std.proofs.lemmas.Bool.{cases_lt}
use Rattle.bits.specs.Pick.{pick}
use Rattle.bits.proofs.Picks.{tested}
use Rattle.refusals.specs.First.{first_of}
use Rattle.refusals.specs.declared.reasons.Refusal.TheVariants.{NoRow}
use Rattle.counters.specs.Counts.{next_count, tallied, single}
use Rattle.counters.proofs.CountLaws.{length_tallied, tallied_at, single_at, next_next}
use Rattle.device_state.specs.Table.{some_below}
use Rattle.device_state.specs.Contradictory.{row_refused, amount_refused_at, tally_refused}
use Rattle.device_state.proofs.TableLaws.{some_absent}
use Rattle.rules.specs.Call.{happens}
use Rattle.rules.specs.declared.event.DeviceEvent.TheVariants.{LinkEvent, LinkTally}
use Rattle.rules.specs.Tests.{tests}
use Rattle.rules.specs.declared.acts.Act.{Act}
use Rattle.rules.proofs.Ruled as by
use Rattle.device.specs.Device.{contradictory_device}
use Rattle.device.specs.Lent.{Lent, lent}
use Rattle.device.specs.FactsOf.{facts_of}
use Rattle.device.specs.After.{with_values, counted_by, after_of}
use Rattle.device.specs.Step.{Step, step_by, step}
use Rattle.device.specs.declared.state.Device.{Device}
use Rattle.device.proofs.Keeping.{counted_good, single_spares}
use Rattle.device.proofs.Turns.{by_turn, none_some, act_ruled, step_refusal}

-- a link event and a link tally, which are lent nothing
abbrev pub link : ℕ → Lent
link r = lent (happens (LinkEvent r)) [] []

abbrev pub tally : List ℕ → Lent
tally ns = lent (happens (LinkTally ns)) [] []

-- how many of these link events are of a row
unfoldable pub times : ℕ → List ℕ → ℕ
times r [] = 0
times r (x ∷ rs) = pick (eqb r x) 1 0 + times r rs

-- link events one after the other, each of them taken, lead from a state to another
pub data Linked : Device → List ℕ → Device → Type 0 where
  no_more : (d : Device) → Linked d [] d
  one_more : (d d' : Device) (r : ℕ) (rs : List ℕ) → (step d (link r)).refusal ≡ None → Linked (step d (link r)).state rs d' → Linked d (r ∷ rs) d'

-- ---- what each is refused with, and what it does

-- 13 alone, of a state that does not contradict itself
pub link_refusal : (d : Device) (r : ℕ) → contradictory_device d ≡ false → (step d (link r)).refusal ≡ pick (row_refused d.settings.mask r) (Some NoRow) None
unfolding tests first_of
link_refusal d r g = step_refusal d (link r) ∙ rw g refl

pub tally_refusal : (d : Device) (ns : List ℕ) → contradictory_device d ≡ false → (step d (tally ns)).refusal ≡ pick (tally_refused d.settings.mask ns) (Some NoRow) None
unfolding tests first_of
tally_refusal d ns g = step_refusal d (tally ns) ∙ rw g refl

-- taken
record Counted (d : Device) (ns : List ℕ) (s : Step) : Type 0 where
  good : contradictory_device d ≡ false
  state : s.state ≡ counted_by d ns

link_ruled : (d : Device) (r : ℕ) {a : Act} → by.Ruled (facts_of d (link r)) (happens (LinkEvent r)) (Ok a) → Counted d (single r) (step_by d (link r) (Ok a))
unfolding after_of
link_ruled d r (by.own (by.linked _ g x)) = record { good = g; state = refl }

link_counted : (d : Device) (r : ℕ) → (step d (link r)).refusal ≡ None → Counted d (single r) (step d (link r))
link_counted d r = by_turn d (link r) (λ s. s.refusal ≡ None → Counted d (single r) s) (λ n _ z. absurd (none_some n z)) (λ a q _. link_ruled d r (act_ruled d (link r) a q))

tally_ruled : (d : Device) (ns : List ℕ) {a : Act} → by.Ruled (facts_of d (tally ns)) (happens (LinkTally ns)) (Ok a) → Counted d ns (step_by d (tally ns) (Ok a))
unfolding after_of
tally_ruled d ns (by.own (by.tallied _ g x)) = record { good = g; state = refl }

tally_counted : (d : Device) (ns : List ℕ) → (step d (tally ns)).refusal ≡ None → Counted d ns (step d (tally ns))
tally_counted d ns = by_turn d (tally ns) (λ s. s.refusal ≡ None → Counted d ns s) (λ n _ z. absurd (none_some n z)) (λ a q _. tally_ruled d ns (act_ruled d (tally ns) a q))

-- ---- the counters after link events

unfoldable after_links : List ℕ → List ℕ → List ℕ
after_links vs [] = vs
after_links vs (r ∷ rs) = after_links (tallied vs (single r)) rs

length_after : (vs rs : List ℕ) → length (after_links vs rs) ≡ length vs
unfolding after_links
length_after vs [] = refl
length_after vs (r ∷ rs) = length_after (tallied vs (single r)) rs ∙ length_tallied vs (single r)

-- each row has as many more as there were events of it
after_at : (vs rs : List ℕ) (k : ℕ) → length vs ≡ 16 → k < 16 → get_or (after_links vs rs) k 0 ≡ next_count (get_or vs k 0) (times k rs)
unfolding after_links times
after_at vs [] k l u = refl
after_at vs (r ∷ rs) k l u =
    after_at (tallied vs (single r)) rs k (length_tallied vs (single r) ∙ l) u
    ∙ ap (λ (v : ℕ). next_count v (times k rs)) (tallied_at vs (single r) k (subst⁻¹ (λ (n : ℕ). k < n) l u) ∙ ap (next_count (get_or vs k 0)) (single_at r k u))
    ∙ next_next (get_or vs k 0) (pick (eqb k r) 1 0) (times k rs)

-- so in any order they come to the tally of them
after_tallied : (vs ns rs : List ℕ) → length vs ≡ 16 → ((r : ℕ) → times r rs ≡ get_or ns r 0) → after_links vs rs ≡ tallied vs ns
after_tallied vs ns rs l e =
    ext_get_or 0 (after_links vs rs) (tallied vs ns) (length_after vs rs ∙ sym (length_tallied vs ns))
    (λ i u. let w : i < 16 = omega (arith, u, length_after vs rs, l) in after_at vs rs i l w ∙ ap (next_count (get_or vs i 0)) (e i) ∙ sym (tallied_at vs ns i (omega (arith, w, l))))

-- ---- the events one by one

-- no event of these is of a row that is refused
abbrev Free : ℕ → List ℕ → Type 0
Free mask rs = (r : ℕ) → 0 < times r rs → row_refused mask r ≡ false

first_free : (mask r : ℕ) (rs : List ℕ) → Free mask (r ∷ rs) → row_refused mask r ≡ false
unfolding times
first_free mask r rs f = f r (rw (eq-eqb r r refl) (omega arith))

links : (rs : List ℕ) (d : Device) → contradictory_device d ≡ false → Free d.settings.mask rs → Linked d rs (with_values d (after_links d.values rs))
unfolding after_links counted_by times
links [] d g f = no_more d
links (r ∷ rs) d g f =
    let row = first_free d.settings.mask r rs f in
    let none : (step d (link r)).refusal ≡ None = link_refusal d r g ∙ rw row refl in
    let next = counted_by d (single r) in
    let good = counted_good d (single r) g (single_spares d.settings.mask r (grind arith)) in
    one_more d _ r rs none (subst⁻¹ (λ (x : Device). Linked x rs (with_values d (after_links next.values rs))) (link_counted d r none).state (links rs next good (λ k m. f k (omega (arith, m)))))

-- a tally that is taken is what as many link events come to, in any order, and each of them is taken; at the top too [link-tally]
pub tally_links : (d : Device) (ns rs : List ℕ) → length d.values ≡ 16 → length ns ≡ 16 → (step d (tally ns)).refusal ≡ None → ((r : ℕ) → times r rs ≡ get_or ns r 0) → Linked d rs (step d (tally ns)).state
unfolding counted_by tally_refused
tally_links d ns rs l m z e =
    let c = tally_counted d ns z in
    let mask = d.settings.mask in
    let none : tally_refused mask ns ≡ false = let t = tally_refusal d ns c.good in grind arith in
    let free : Free mask rs = λ r u. ⊎_elim (λ (w : r < 16). let a = some_absent (amount_refused_at mask ns) 16 r none w in let n = e r in grind arith) (λ (w : 16 ≤ r). let n = get_or-eq_default ns 0 {n = r} (rw m w) in absurd (omega (arith, u, e r, n))) (cases_lt r 16) in
    subst⁻¹ (λ (x : Device). Linked d rs x) (c.state ∙ ap (with_values d) (sym (after_tallied d.values ns rs l e))) (links rs d c.good free)

-- ---- refused

-- some number below n is so: which
pub some_found : (p : ℕ → Bool) (n : ℕ) → some_below n p ≡ true → (i : ℕ) × ((i < n) × (p i ≡ true))
unfolding some_below
some_found p zero e = absurd (false≢true e)
some_found p (suc n) e =
    ⊎_elim
    (λ (t : p n ≡ true). (n, (omega arith, t)))
    (λ (f : p n ≡ false). let r = some_found p n (grind arith) in (r.0, (omega (arith, r.1.0), r.1.1)))
    (tested (p n))

some_there : (p : ℕ → Bool) (n i : ℕ) → i < n → p i ≡ true → some_below n p ≡ true
some_there p n i u t = ⊎_elim (λ (y : some_below n p ≡ true). y) (λ (f : some_below n p ≡ false). absurd (false≢true (sym (some_absent p n i f u) ∙ t))) (tested (some_below n p))

-- a row with another amount than 0, of which a link event is refused with 13
pub record RefusedRow (d : Device) (ns : List ℕ) (r : ℕ) : Type 0 where
  pub row : r < 16
  pub some : get_or ns r 0 ≡ 0 → ⊥
  pub refused : (step d (link r)).refusal ≡ Some NoRow

-- a tally is refused with 13 exactly where one of its link events would be; one row refuses all [refused-13] [link-tally]
pub tally_refused_by : (d : Device) (ns : List ℕ) → contradictory_device d ≡ false → (step d (tally ns)).refusal ≡ Some NoRow → (r : ℕ) × RefusedRow d ns r
unfolding tally_refused
tally_refused_by d ns g z =
    let t = tally_refusal d ns g in
    let bad : tally_refused d.settings.mask ns ≡ true = grind arith in
    let f = some_found (amount_refused_at d.settings.mask ns) 16 bad in
    let here = f.1.1 in
    let link_is = link_refusal d f.0 g in
    (f.0, record { row = f.1.0; some = λ e. grind arith; refused = grind arith })

pub refused_row : (d : Device) (ns : List ℕ) (r : ℕ) → contradictory_device d ≡ false → RefusedRow d ns r → (step d (tally ns)).refusal ≡ Some NoRow
unfolding tally_refused
refused_row d ns r g x =
    let l = link_refusal d r g in
    let s = x.some in
    let q = x.refused in
    let bad : row_refused d.settings.mask r ≡ true = grind arith in
    let here : amount_refused_at d.settings.mask ns r ≡ true = grind arith in
    tally_refusal d ns g ∙ rw (some_there (amount_refused_at d.settings.mask ns) 16 r x.row here) refl
