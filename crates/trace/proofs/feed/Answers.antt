-- `trace::feed` meets its contract: each way on is a law of `Feeding`. Assumes nothing.
use native.Mathlib.Omega.{arith}
use mathlib.Core.Path.{◌≡◌}
use Rattle.trace.specs.Feed.{ran}
use Rattle.trace.proofs.Feeding.{feeding_start, feeding_room, feeding_byte, feeding_part, feeding_line}
use Rattle.trace.proofs.Feeding.{feeding_end, feeding_full}
use Rattle.trace.proofs.feed.Goals as goal

pub loop-at-init : goal.loop-at-init
loop-at-init c = record { whole = omega arith; feeding = feeding_start _ _ _ c.requires }

pub loop-at-preserved-then-byte-ne-LINE_FEED : goal.loop-at-preserved-then-byte-ne-LINE_FEED
loop-at-preserved-then-byte-ne-LINE_FEED c = record {
  whole = omega arith;
  feeding = feeding_byte c.loop-at.invariant.feeding (omega arith) c.if-byte-ne-LINE_FEED.true
      c.lengthened-current.result c.lengthened-current.ensures;
}

pub overflow_sub-room : goal.overflow_sub-room
overflow_sub-room c =
    omega (arith, feeding_room c.loop-at.invariant.feeding, c.loop-at.invariant.feeding.most)

pub overflow_add-end : goal.overflow_add-end
overflow_add-end c =
    omega (arith, feeding_room c.loop-at.invariant.feeding, c.loop-at.invariant.feeding.most)

pub finish-current-requires : goal.finish-current-requires
finish-current-requires c = record {
  lent = c.loop-at.invariant.feeding.lent;
  room = feeding_part c.loop-at.invariant.feeding (omega arith);
}

pub loop-at-preserved : goal.loop-at-preserved
loop-at-preserved c =
    let last = c.finish-current.new in
    record {
      whole = omega arith;
      feeding = feeding_line c.loop-at.invariant.feeding (omega arith) c.if-byte-ne-LINE_FEED.false
          (omega (arith, feeding_room c.loop-at.invariant.feeding))
          (ran c.finish-current.result last.shadow last.table last.part) c.finish-current.ensures;
    }

pub returns-after-loop-at : goal.returns-after-loop-at
returns-after-loop-at c =
    let all : c.loop-at.taken ≡ c.loop-at.at = omega arith in
    rw all
    (feeding_end c.loop-at.invariant.feeding _ c.call_status_of-status.ensures (omega arith))

pub returns-then-room-wrote-lt-ANSWER_BYTES : goal.returns-then-room-wrote-lt-ANSWER_BYTES
returns-then-room-wrote-lt-ANSWER_BYTES c =
    feeding_full c.loop-at.invariant.feeding _ c.call_status_of-status.ensures (omega arith)
    c.if-byte-ne-LINE_FEED.false
    (omega (arith, feeding_room c.loop-at.invariant.feeding))
