-- The text of a batch in which nothing was added doesn't tell how many notices were put in before it.
use Rattle.std.proofs.Common.{◌≡◌, ℕ, ◌<◌, ◌^◌, false, List, [], ◌∷◌, refl, ap, ◌∙◌, subst}
use Rattle.std.specs.List.{list_any}
use Rattle.ref_base.specs.Outs.{Outs, is_added, outs_of}
use Rattle.ref_base.specs.Replies.{outs_text}
use Rattle.ref_base.specs.declared.actor.Actor.{Actor}
use Rattle.ref_base.specs.declared.out.Done.{Done}
use Rattle.ref_base.specs.declared.out.Done.TheVariants.{Added, Already, Closed, Refused}
use Rattle.ref_base.specs.declared.out.Out.{Out}
use Rattle.ref_base.specs.declared.out.Out.TheVariants as out
use Rattle.ref_base.specs.declared.reply.Reply.{Reply}
use Rattle.ref_base.specs.declared.reply.Reply.TheVariants as replies
use Rattle.ref_base.specs.declared.row.Row.{Row}
use Rattle.ref_base.specs.declared.step.Step.TheVariants.{Puts}
use Rattle.ref_judge.specs.Judged.{Judged, put_for}
use Rattle.ref_log.specs.LogRows.{SpellsRow}
use Rattle.ref_log.specs.RowTexts.{in_script}
use Rattle.ref_script.specs.Lines.{words_of}
use Rattle.ref_script.specs.ReplyKinds.{IsToldSo, is_of_kind, reply_kind_of}
use Rattle.ref_script.specs.declared.reply_kind.ReplyKind.{ReplyKind}
use Rattle.ref_script.specs.declared.reply_kind.ReplyKind.TheVariants as kinds
use Rattle.ref_script.specs.declared.script_step.ScriptReply.TheVariants as said
use Rattle.ref_script.specs.declared.script_step.ScriptStep.TheVariants as steps

-- where nothing was added no position is told
pub outs_unplaced : (a b : ℕ) (ds : List Done) → list_any is_added ds ≡ false → outs_of a ds ≡ outs_of b ds
outs_unplaced a b [] none = refl
outs_unplaced a b (Added ∷ ds) none = absurd cc
outs_unplaced a b (Already ∷ ds) none = ap (λ (os : List Out). out.Already ∷ os) (outs_unplaced a b ds none)
outs_unplaced a b (Closed ∷ ds) none = ap (λ (os : List Out). out.Closed ∷ os) (outs_unplaced a b ds none)
outs_unplaced a b (Refused fault ∷ ds) none =
    ap (λ (os : List Out). out.Refused fault ∷ os) (outs_unplaced a b ds none)

-- how many were put in before doesn't tell which steps the reply is one to
same_kind : (kind : ReplyKind) (outs : Outs) (before : ℕ)
    → is_of_kind kind (said.World (replies.Outs (record outs { before = before })))
    ≡ is_of_kind kind (said.World (replies.Outs outs))
same_kind kinds.One outs before = refl
same_kind kinds.Polls outs before = refl
same_kind kinds.Puts outs before = refl
same_kind kinds.Jobs outs before = refl

module _ (outs : Outs) (before : ℕ) (fits : before < 2 ^ 63) (none : list_any is_added outs.done ≡ false) where
  moved_told : (kind : ReplyKind) (words : List (List ℕ)) → IsToldSo kind words (said.World (replies.Outs outs))
      → IsToldSo kind words (said.World (replies.Outs (record outs { before = before })))
  moved_told kind words told = record {
    of_kind = same_kind kind outs before ∙ told.of_kind;
    ranges = (fits, told.ranges.1);
    words_are = ap (λ (os : List Out). words_of (outs_text os)) (outs_unplaced before outs.before outs.done none)
        ∙ told.words_are;
  }

  -- so a row with it is spelt by the words of one with another count
  pub moved_spelt : (words : List (List ℕ)) (row : Row) → row.reply ≡ replies.Outs outs
      → SpellsRow words (in_script row)
      → SpellsRow words (in_script (record row { reply = replies.Outs (record outs { before = before }) }))
  moved_spelt words row is spelt = record {
    front = spelt.front;
    back = spelt.back;
    parts = spelt.parts;
    first = spelt.first;
    step = spelt.step;
    exact = spelt.exact;
    reply = moved_told (reply_kind_of (steps.World row.step)) spelt.back
        (subst (λ (r : Reply). IsToldSo (reply_kind_of (steps.World row.step)) spelt.back (said.World r)) is
        spelt.reply);
  }

-- a batch that was moved behind as many notices as were put in stands there
pub moved_placed : (j : Judged) (actor who : Actor) (before : ℕ) (outs moved other : Outs) → before ≡ put_for j actor
    → moved ≡ record outs { before = before } → Puts actor ≡ Puts who → replies.Outs moved ≡ replies.Outs other
    → other.before ≡ put_for j who
moved_placed j actor who before outs moved other count is puts told =
    same_place (ap (λ (o : Outs). o.before) is)
  where
    same_place : moved.before ≡ before → other.before ≡ put_for j who
    same_place stands = cc
