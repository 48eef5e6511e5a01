-- A history: calls with what was lent to them, and what came back. Nothing of a device stands here.
use Rattle.std.specs.Prelude.{Bool, List, ℕ, take, Option, is_none}
use Rattle.refusals.specs.declared.reasons.Refusal.{Refusal}
use Rattle.rules.specs.Call.{Call}

-- one call: the medium and the reply buffer lent to it, its refusal, if it was turned down, how many bytes it replied, and reply buffer and medium as it left them
pub record Event : Type 0 where
  pub call : Call
  pub medium : List ℕ
  pub buffer : List ℕ
  pub refusal : Option Refusal
  pub len : ℕ
  pub filled : List ℕ
  pub left : List ℕ

-- taken: not refused
abbrev pub taken : Event → Bool
taken e = is_none e.refusal

-- the bytes of its replies, which stand in front of the reply buffer
abbrev pub replied : Event → List ℕ
replied e = take e.len e.filled
