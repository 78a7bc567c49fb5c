use Rattle.ref_script.proofs.Common.{◌≡◌, take, listing_text}
use Rattle.std.specs.Fmt.{IsPlainFormatter, formatter_writer}
use Rattle.ref_script.proofs.listing.lines_of_objects.Given as goal

abbrev pub invariant-loop-object : goal.invariant-loop-object
invariant-loop-object g l =
    (formatter_writer l.listing ≡ listing_text (take l.object-index l.listed))
    × IsPlainFormatter l.listing
