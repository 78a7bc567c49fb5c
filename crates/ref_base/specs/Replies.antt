-- How each reply is spelled (this project's profile).
use Rattle.std.specs.Prelude.{ℕ, true, false, List, [], ◌∷◌, ◌++◌, codes, decimal}
use Rattle.ref_base.specs.Texts.{Word, Letters, Long, queue, worker, number, text_of}
use Rattle.ref_base.specs.Outs.{outs_of}
use Rattle.ref_base.specs.Faults.{number_of, name_of}
use Rattle.ref_base.specs.declared.cause.Cause.{Cause}
use Rattle.ref_base.specs.declared.cause.Cause.TheVariants.{Own, Cycle}
use Rattle.ref_base.specs.declared.out.Out.{Out}
use Rattle.ref_base.specs.declared.out.Out.TheVariants as out
use Rattle.ref_base.specs.declared.reply.Reply.{Reply}
use Rattle.ref_base.specs.declared.reply.Reply.TheVariants as replies

-- the words for why there is a notice
abbrev pub cause_words : Cause → List Word
cause_words Own = Letters (codes "own") ∷ []
cause_words (Cycle n w) = Letters (codes "cycle") ∷ Long n ∷ worker w ∷ []

-- the words for what became of an item of a batch: those of the reply to a put of it alone
abbrev pub out_words : Out → List Word
out_words (out.Added position) = Letters (codes "added") ∷ Long position ∷ []
out_words out.Already = Letters (codes "already") ∷ []
out_words out.Closed = Letters (codes "closed") ∷ []
out_words (out.Refused fault) =
    Letters (codes "refused") ∷ number (number_of fault) ∷ Letters (name_of fault) ∷ []

-- the words of a reply of no batch, as a trace has them
abbrev pub reply_words : Reply → List Word
reply_words (replies.Object n) = Letters (codes "object") ∷ number n ∷ []
reply_words replies.Null = Letters (codes "null") ∷ []
reply_words replies.Done = Letters (codes "ok") ∷ []
reply_words (replies.Refers true) = Letters (codes "true") ∷ []
reply_words (replies.Refers false) = Letters (codes "false") ∷ []
reply_words (replies.Notice n q cause) = Letters (codes "notice") ∷ number n ∷ queue q ∷ cause_words cause
reply_words replies.Nothing = Letters (codes "none") ∷ []
reply_words (replies.Added position) = out_words (out.Added position)
reply_words replies.Already = out_words out.Already
reply_words replies.Closed = out_words out.Closed
reply_words (replies.Took n) = Letters (codes "took") ∷ number n ∷ []
reply_words replies.Empty = Letters (codes "empty") ∷ []
reply_words (replies.Cycle n) = Letters (codes "cycle") ∷ Long n ∷ []
reply_words (replies.Scanned n) = Letters (codes "scanned") ∷ number n ∷ []
reply_words (replies.Doomed count) = Letters (codes "doomed") ∷ number count ∷ []
reply_words (replies.Cleared n) = Letters (codes "cleared") ∷ number n ∷ []
reply_words (replies.Kept n) = Letters (codes "kept") ∷ number n ∷ []
reply_words (replies.Skipped n) = Letters (codes "skipped") ∷ number n ∷ []
reply_words (replies.Swept count) = Letters (codes "swept") ∷ number count ∷ []
reply_words (replies.Selected count) = Letters (codes "selected") ∷ number count ∷ []
reply_words (replies.Moved n) = Letters (codes "moved") ∷ number n ∷ []
reply_words (replies.Refused fault) = out_words (out.Refused fault)
reply_words reply = []

-- these numbers, with a space before each
abbrev pub spaced : List ℕ → List ℕ
spaced [] = []
spaced (n ∷ ns) = 32 ∷ decimal n ++ spaced ns

-- the text of what became of each item, with a comma between each two
abbrev pub outs_text : List Out → List ℕ
outs_text [] = []
outs_text (o ∷ []) = text_of (out_words o)
outs_text (o ∷ p ∷ os) = text_of (out_words o) ++ codes ", " ++ outs_text (p ∷ os)

-- the text of a reply, as a trace has it
abbrev pub reply_text : Reply → List ℕ
reply_text (replies.Notices ns q cycle k) =
    codes "notices" ++ spaced ns ++ 32 ∷ text_of (queue q ∷ cause_words (Cycle cycle k))
reply_text (replies.Outs outs) = outs_text (outs_of outs.before outs.done)
reply_text (replies.TookSome ns) = codes "took" ++ spaced ns
reply_text reply = text_of (reply_words reply)
