-- One call more: what its contract allows continues every history that led to its state.
use Rattle.std.proofs.Common.{◌≡◌, refl, sym, subst, false, List, [], ◌∷◌, ◌++◌, ℕ}
use Rattle.rules.specs.Call.{Call}
use Rattle.rules.specs.Handed.{handed}
use Rattle.device_state.specs.declared.shapes.Settings.{Settings}
use Rattle.device.specs.Device.{power_on}
use Rattle.device.specs.declared.state.Device.{Device}
use Rattle.device.specs.declared.state.Outcome.{Outcome}
use Rattle.device.specs.Lent.{Lent, lent, Gave, gave, Typed}
use Rattle.device.proofs.Lending.{unlent, unlent_both}
use Rattle.history.specs.Run.{Done, done, AllTyped}
use Rattle.device.specs.Step.{Given}
use Rattle.history.specs.Follows.{FollowsBy, final, lents, history_of}
use Rattle.history.proofs.Allowed.{Allowed}
use Rattle.history.proofs.Contracts.{allowed_given}
use Rattle.history.proofs.Faithful.{promised_given}
use Rattle.caller.specs.Continued.{Reached, Holds, Continues, ContinuesReplying, ContinuesAlone, Begins}
use Rattle.history.specs.Promised.{Promised}

-- of what is reached, all holds
pub holds : (s : Settings) (r : Outcome) (xs : List Done) (d : Device) → Reached s r xs d → Holds s r xs d
holds s r xs d h = record {
  reached = h;
  promised = subst (λ (e : Device). Promised s r e (history_of xs)) h.last (promised_given s r xs h.began h.typed);
}

-- power-on, and no call yet
pub begins : (s : Settings) (r : Outcome) → r ≡ power_on s → Begins s r
unfolding AllTyped FollowsBy final
begins s r e = holds s r [] r.state (record { began = record { power = e; follows = tt }; typed = tt; last = refl })

-- one more at the end
follows_more : (xs : List Done) (d : Device) (x : Done) → FollowsBy Given d xs → Given (final d xs) x.lent x.gave → FollowsBy Given d (xs ++ x ∷ [])
unfolding FollowsBy final
follows_more [] d x f a = (a, tt)
follows_more (y ∷ xs) d x f a = (f.0, follows_more xs y.gave.outcome.state x f.1 a)

final_more : (xs : List Done) (d : Device) (x : Done) → final d (xs ++ x ∷ []) ≡ x.gave.outcome.state
unfolding final
final_more [] d x = refl
final_more (y ∷ xs) d x = final_more xs y.gave.outcome.state x

typed_more : (xs : List Done) (x : Done) → AllTyped (lents xs) → Typed x.lent.call → AllTyped (lents (xs ++ x ∷ []))
unfolding AllTyped
typed_more [] x t u = (u, tt)
typed_more (y ∷ xs) x t u = (t.0, typed_more xs x t.1 u)

-- a call that the one contract promises goes on
pub continues_given : (d : Device) (a : Lent) (g : Gave) → Typed a.call → Given d a g → Continues d a g
continues_given d a g t p s r xs h =
    holds s r (xs ++ done a g ∷ []) g.outcome.state (record {
      began = record { power = h.began.power; follows = follows_more xs r.state (done a g) h.began.follows (subst (λ (e : Device). Given e a g) (sym h.last) p) };
      typed = typed_more xs (done a g) h.typed t;
      last = final_more xs r.state (done a g);
    })

-- so a call that a contract allows
pub continues : (d : Device) (a : Lent) (g : Gave) → Typed a.call → Allowed d a g → Continues d a g
continues d a g t p = continues_given d a g t (allowed_given p)

-- one that is lent a reply buffer alone, by what it gives without a medium
pub continues_replying : (d : Device) (c : Call) (b b' : List ℕ) (r : Outcome) → (handed c).medium ≡ false → Typed c → Given d (lent c [] b) (gave r [] b') → ContinuesReplying d c b r b'
continues_replying d c b b' r u t p = λ m. continues_given d (lent c m b) (gave r m b') t (unlent d c m b b' r u p)

-- and one that is lent nothing, by what it gives without both
pub continues_alone : (d : Device) (c : Call) (r : Outcome) → (handed c).medium ≡ false → (handed c).buffer ≡ false → Typed c → Given d (lent c [] []) (gave r [] []) → ContinuesAlone d c r
continues_alone d c r u k t p = λ m b. continues_given d (lent c m b) (gave r m b) t (unlent_both d c m b r u k p)
