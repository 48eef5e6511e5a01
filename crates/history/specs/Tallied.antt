-- A link tally beside the link events that it stands for: what each leaves of a state, and when each is turned down.
use Rattle.std.specs.Prelude.{◌≡◌, List, [], ◌∷◌, map, ℕ, ◌<◌, eqb, length, get_or, count_by, Some, None}
use Rattle.refusals.specs.declared.reasons.Refusal.TheVariants.{NoRow}
use Rattle.rules.specs.Call.{happens}
use Rattle.rules.specs.declared.event.DeviceEvent.TheVariants.{LinkEvent, LinkTally}
use Rattle.device.specs.Lent.{Lent, lent, Gave}
use Rattle.device.specs.declared.state.Device.{Device}
use Rattle.history.specs.Run.{Done}
use Rattle.history.specs.Follows.{FollowsBy, final, lents}

-- a link event and a link tally, which are lent nothing
abbrev pub link : ℕ → Lent
link row = lent (happens (LinkEvent row)) [] []

abbrev pub tally : List ℕ → Lent
tally amounts = lent (happens (LinkTally amounts)) [] []

-- among these rows, in any order, each stands as often as its amount says
abbrev pub AsOften : List ℕ → List ℕ → Type 0
AsOften amounts rows = (r : ℕ) → count_by (λ x. eqb r x) rows ≡ get_or amounts r 0

-- every call was taken
unfoldable pub AllTaken : List Done → Type 0
AllTaken [] = Unit
AllTaken (x ∷ xs) = (x.gave.outcome.refusal ≡ None) × AllTaken xs

-- a row with another amount than 0, whose link event is refused with 13
pub record RefusedRow (R : Device → Lent → Gave → Type 0) (d : Device) (amounts : List ℕ) (row : ℕ) : Type 0 where
  pub below : row < 16
  pub some : get_or amounts row 0 ≡ 0 → ⊥
  pub refused : (g : Gave) → R d (link row) g → g.outcome.refusal ≡ Some NoRow

-- of each result of a tally, and of a link event, of the state d as R allows it; counters and amounts are sixteen, as their types say [link-tally]
pub record TallyIsLinks (R : Device → Lent → Gave → Type 0) (d : Device) : Type 0 where
  -- taken, it comes to what as many link events come to, at the top too, and each of these is taken
  pub taken : (amounts rows : List ℕ) (g : Gave) (xs : List Done) → length d.values ≡ 16 → length amounts ≡ 16 → R d (tally amounts) g → g.outcome.refusal ≡ None
      → AsOften amounts rows → FollowsBy R d xs → lents xs ≡ map link rows → AllTaken xs × (final d xs ≡ g.outcome.state)
  -- refused with 13, some row is one of which it must be; and one such row refuses it [refused-13]
  pub refused : (amounts : List ℕ) (g : Gave) → R d (tally amounts) g → g.outcome.refusal ≡ Some NoRow → (row : ℕ) × RefusedRow R d amounts row
  pub refuses : (amounts : List ℕ) (row : ℕ) (g g' : Gave) → R d (tally amounts) g → R d (link row) g' → RefusedRow R d amounts row → g.outcome.refusal ≡ Some NoRow
