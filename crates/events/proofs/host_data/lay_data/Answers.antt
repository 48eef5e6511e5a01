use Rattle.std.proofs.Common.{◌≡◌, ◌+◌, length, length-take-le, arith}
use Rattle.events.specs.HostData.{data_frame}
use Rattle.events.proofs.host_data.lay_data.Goals as goal

pub returns : goal.returns
unfolding data_frame
returns c =
    let split = c.split_at_mut-head.ensures in
    let front = length-take-le (4 + c.args.size) c.args.room.now (omega arith) in
    let size : length c.split_at_mut-head.result.1.now ≡ c.args.size = omega (arith, split.back_len, front) in
    let filled = c.fill.ensures.after (λ y e. e) in
    rw (c.copy_from_slice.ensures.after, filled, size)
