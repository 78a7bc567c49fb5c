-- A line of the program as a line of the definitions.
use Rattle.ref_script.specs.Lines.{TextLine}
use Rattle.ref_script.specs.declared.lines.Line.{Line}

abbrev pub line_of : Line → TextLine
line_of line = record { bytes = line.bytes.now; is_ended = line.is_ended }
