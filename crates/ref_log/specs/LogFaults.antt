-- What is wrong with a line of a log, where it is what may be wrong with a line of a script.
use Rattle.ref_log.specs.declared.fault.LogFault.{LogFault}
use Rattle.ref_log.specs.declared.fault.LogFault.TheVariants as logs
use Rattle.ref_text.specs.declared.fault.LineFault.{LineFault}
use Rattle.ref_text.specs.declared.fault.LineFault.TheVariants as lines

-- the fault of the same name: the two that only a graph text has are those of a step that come nearest
abbrev pub log_fault : LineFault → LogFault
log_fault lines.LineTooLong = logs.LineTooLong
log_fault lines.NotAscii = logs.NotAscii
log_fault lines.BadHeader = logs.BadHeader
log_fault lines.BadConfig = logs.BadConfig
log_fault lines.UnknownStep = logs.UnknownStep
log_fault lines.UnknownLine = logs.UnknownStep
log_fault lines.MissingWord = logs.MissingWord
log_fault lines.BadWord = logs.BadWord
log_fault lines.ExtraWord = logs.ExtraWord
log_fault lines.DoubleObject = logs.BadWord
