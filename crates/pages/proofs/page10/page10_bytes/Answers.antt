use Rattle.std.proofs.Common.{refl, ap, ◌∙◌, ℕ, List, replicate}
use Rattle.bits.specs.Laid.{overlay_with_room}
use Rattle.frames.specs.Shared.{register_bytes}
use Rattle.frames.proofs.Defaults.{default_zeros}
use Rattle.pages.specs.Page10.{page10}
use Rattle.pages.proofs.Laws10.{made}
use Rattle.pages.proofs.page10.page10_bytes.Goals as goal

pub returns : goal.returns
unfolding page10 register_bytes
returns c =
    let zeros = default_zeros c.default.result c.default.ensures in
    let h = rw (c.first_byte.ensures, zeros) at c.to_bytes.ensures in
    c.seal.ensures ∙ made _ c.lay.new.buf refl (c.lay.ensures.1 ∙ ap (λ (x : List ℕ). overlay_with_room x (replicate 512 0)) h)
