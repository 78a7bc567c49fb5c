use Rattle.std.proofs.Common.{◌≡◌, ◌-◌, ◌^◌, List}
use Rattle.ref_log.proofs.ReadLines.{HasPassed}
use Rattle.ref_log.specs.ReadLines.{HasRead}
use Rattle.ref_script.specs.Lines.{TextLine}
use Rattle.ref_log.proofs.told.next_told.Given as goal

abbrev pub invariant-loop-stream : goal.invariant-loop-stream
invariant-loop-stream g l =
    ((lines read : List TextLine) → HasRead lines read (g.R.TextSource.remaining l.fn.reader) l.fn.stream
    → HasPassed lines read (g.R.TextSource.remaining l.reader) l.stream)
    × (g.R.TextSource.has_failed l.reader ≡ g.R.TextSource.has_failed l.fn.reader)

abbrev pub decreases-loop-stream : goal.decreases-loop-stream
decreases-loop-stream g l = 2 ^ 64 - l.stream.number
