-- The contracts of what is watched, over any writer and any reader: what they say.
use Rattle.std.proofs.Common.{[], ◌≡◌, ◌||◌, false, is_err, length, drop, Some, OnOk, OnErr, IfOk}
use denote.Param.Laws.{Laws}
use denote.RattleType.{RattleType}
use mir.Syntax.{Dict}
use Rattle.bits.specs.Contract.{SaysOver}
use Rattle.std.specs.Io.KnownBytes.{Appends, Consumes}
use Rattle.std.specs.Io.Buffered.{reader_buffer, reader_inner, reader_remaining}
use Rattle.std.specs.Io.BufRead.{DropsConsumable}
use Rattle.std.specs.declared.io.traits.Read as Reader
use Rattle.std.specs.declared.io.traits.Write as Writer
use Rattle.streams.specs.Fronts.{AppendsFront, Filled, StuckBefore, ReadByte}
use Rattle.streams.specs.Lost.{complaint}
use Rattle.streams.proofs.watched
use Rattle.streams.specs.contracts.watched as watched-said

pub tied_new : (T : RattleType) (l : Laws T)
    → SaysOver (watched-said.Watched.new.ended T) (watched.Watched.new.Reads.Asked T l) (watched.Watched.new.Reads.Post T l)
    (λ κs a r ws. (r.inner ≡ a.0) × (r.failed ≡ false))
tied_new T l = record { same = λ κs a b h. h; some = ((T.lives, tt), λ a x h. h); says = λ κs a r ws p. (p.0, p.1) }

pub tied_has_failed : (T : RattleType) (l : Laws T)
    → SaysOver (watched-said.Watched.has_failed.ended T) (watched.Watched.has_failed.Reads.Asked T l) (watched.Watched.has_failed.Reads.Post T l)
    (λ κs a r ws. r ≡ a.0.now.failed)
tied_has_failed T l = record { same = λ κs a b h. h; some = (([], (T.lives, tt)), λ a x h. h); says = λ κs a r ws p. p }

pub tied_fill : (R : RattleType) (l : Laws R) (g : Reader.Ghosts R.Denot) (d : Dict)
    → SaysOver (watched-said.Watched.fill.ended R g d) (watched.Watched.fill.Reads.Asked R l g d) (watched.Watched.fill.Reads.Post R l g d)
    (λ κs a r ws. (length ws.1.0 ≡ length a.1.0.now) × IfOk r (λ n. Filled (g.remaining a.0.now.inner) (g.remaining ws.0.inner) n ws.1.0) × OnErr r (StuckBefore (g.remaining a.0.now.inner) (g.remaining ws.0.inner) ws.1.0) × (ws.0.failed ≡ (a.0.now.failed || is_err r)))
tied_fill R l g d = record { same = λ κs a b h. h; some = (([], ([], (R.lives, tt))), λ a x h. h); says = λ κs a r ws p. (p.0, p.1.0, p.1.1.0, p.1.1.1) }

pub tied_read_byte : (R : RattleType) (l : Laws R) (g : Reader.Ghosts R.Denot) (d : Dict)
    → SaysOver (watched-said.Watched.read_byte.ended R g d) (watched.Watched.read_byte.Reads.Asked R l g d) (watched.Watched.read_byte.Reads.Post R l g d)
    (λ κs a r ws. IfOk r (λ byte. ReadByte (g.remaining a.0.now.inner) byte (g.remaining ws.0.inner)) × OnErr r (Consumes (g.remaining a.0.now.inner) (g.remaining ws.0.inner) []) × (ws.0.failed ≡ (a.0.now.failed || is_err r)))
tied_read_byte R l g d = record { same = λ κs a b h. h; some = (([], (R.lives, tt)), λ a x h. h); says = λ κs a r ws p. (p.0, p.1.0, p.1.1) }

pub tied_buffer : (R : RattleType) (l : Laws R) (g : Reader.Ghosts R.Denot) (d : Dict)
    → SaysOver (watched-said.Watched+BufReader+R.buffer.ended R g d) (watched.Watched+BufReader+R.buffer.Reads.Asked R l g d) (watched.Watched+BufReader+R.buffer.Reads.Post R l g d)
    (λ κs a r ws. r.now ≡ reader_buffer a.0.now.inner)
tied_buffer R l g d = record { same = λ κs a b h. h; some = (([], (R.lives, tt)), λ a x h. h); says = λ κs a r ws p. p }

pub tied_skip : (R : RattleType) (l : Laws R) (g : Reader.Ghosts R.Denot) (d : Dict)
    → SaysOver (watched-said.Watched+BufReader+R.skip.ended R g d) (watched.Watched+BufReader+R.skip.Reads.Asked R l g d) (watched.Watched+BufReader+R.skip.Reads.Post R l g d)
    (λ κs a r ws. DropsConsumable (reader_remaining g.remaining a.0.now.inner) (reader_remaining g.remaining ws.0.inner) (Some (length (reader_buffer a.0.now.inner))) a.1.0
    × (reader_buffer ws.0.inner ≡ drop a.1.0 (reader_buffer a.0.now.inner)) × (reader_inner ws.0.inner ≡ reader_inner a.0.now.inner) × (ws.0.failed ≡ a.0.now.failed))
tied_skip R l g d = record { same = λ κs a b h. h; some = (([], (R.lives, tt)), λ a x h. h); says = λ κs a r ws p. (p.0, p.1.0, p.1.1.0, p.1.1.1) }

pub tied_put : (W : RattleType) (l : Laws W) (g : Writer.Ghosts W.Denot) (d : Dict)
    → SaysOver (watched-said.Watched.put.ended W g d) (watched.Watched.put.Reads.Asked W l g d) (watched.Watched.put.Reads.Post W l g d)
    (λ κs a r ws. OnOk r (Appends (g.contents a.0.now.inner) (g.contents ws.0.inner) a.1.0.now) × OnErr r (AppendsFront (g.contents a.0.now.inner) (g.contents ws.0.inner) a.1.0.now) × (ws.0.failed ≡ (a.0.now.failed || is_err r)))
tied_put W l g d = record { same = λ κs a b h. h; some = (([], ([], (W.lives, tt))), λ a x h. h); says = λ κs a r ws p. (p.0, p.1.0, p.1.1) }

pub tied_complain : (W : RattleType) (l : Laws W) (g : Writer.Ghosts W.Denot) (d : Dict)
    → SaysOver (watched-said.Watched.complain.ended W g d) (watched.Watched.complain.Reads.Asked W l g d) (watched.Watched.complain.Reads.Post W l g d)
    (λ κs a r ws. OnOk r (Appends (g.contents a.0.now.inner) (g.contents ws.0.inner) complaint) × OnErr r (AppendsFront (g.contents a.0.now.inner) (g.contents ws.0.inner) complaint) × (ws.0.failed ≡ (a.0.now.failed || is_err r)))
tied_complain W l g d = record { same = λ κs a b h. h; some = (([], (W.lives, tt)), λ a x h. h); says = λ κs a r ws p. (p.0, p.1.0, p.1.1) }
