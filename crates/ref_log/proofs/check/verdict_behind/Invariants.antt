use Rattle.std.proofs.Common.{◌≡◌, ◌-◌, ◌^◌, List, Option}
use Rattle.ref_base.specs.declared.config.Config.{Config}
use Rattle.ref_log.proofs.JudgedLines.{IsOnTheWay}
use Rattle.ref_log.specs.HeadReading.{IsBehindHead}
use Rattle.ref_log.specs.NameViews.{names_known}
use Rattle.ref_script.specs.Lines.{TextLine}
use Rattle.ref_log.proofs.check.verdict_behind.Given as goal

abbrev pub invariant-loop-has_row : goal.invariant-loop-has_row
invariant-loop-has_row g l =
    ((given : Option Config) (lines : List TextLine)
    → IsBehindHead given lines (g.R.TextSource.remaining l.fn.reader) l.fn.stream l.fn.head.profile l.fn.head.config
    l.fn.head.is_named l.fn.head.has_row
    → IsOnTheWay given lines (g.R.TextSource.remaining l.reader) l.stream l.fn.head.profile l.fn.head.config
    l.has_row l.rows l.judge (names_known l.names))
    × (g.R.TextSource.has_failed l.reader ≡ g.R.TextSource.has_failed l.fn.reader)

abbrev pub decreases-loop-has_row : goal.decreases-loop-has_row
decreases-loop-has_row g l = 2 ^ 64 - l.rows
