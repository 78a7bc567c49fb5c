-- Replies that `==` takes for equal are the same: those of a batch too, which list the same then.
use Rattle.ref_base.proofs.Common.{arith, ◌≡◌, ℕ, ◌==◌, ◌&&◌, Bool, List, [], ◌∷◌, ◌++◌, length, take}
use Rattle.ref_base.proofs.Common.{and_parts, refl, sym, ap, ◌∙◌, eqb-true, eq-eqb}
use Rattle.std.specs.Bool.{Decides}
use Rattle.std.proofs.lemmas.Bool.Decides.{Decides-eqb}
use Rattle.std.proofs.lemmas.Slice.Eq.{slice_eq-Decides}
use Rattle.ref_base.specs.Filled.{filled}
use Rattle.ref_base.specs.Outs.{Outs}
use Rattle.ref_base.specs.contracts.nos.NosPartialEq.TheImpl as nos
use Rattle.ref_base.specs.contracts.out.DonePartialEq.TheImpl as done
use Rattle.ref_base.specs.contracts.outs.OutsPartialEq.TheImpl as outs
use Rattle.ref_base.specs.contracts.fault.FaultPartialEq.TheImpl as fault
use Rattle.ref_base.specs.contracts.cause.CausePartialEq.TheImpl as cause
use Rattle.ref_base.specs.contracts.reply.ReplyPartialEq.TheImpl as reply
use Rattle.ref_base.specs.declared.cause.Cause.{Cause}
use Rattle.ref_base.specs.declared.fault.Fault.{Fault}
use Rattle.ref_base.specs.declared.out.Done.{Done}
use Rattle.ref_base.specs.declared.out.Done.TheVariants.{Added}
use Rattle.ref_base.specs.declared.reply.Reply.{Reply}
use Rattle.ref_base.specs.declared.reply.Reply.TheVariants as replies

-- short lists of one length that are the same where they are filled up are the same
filled_same : {T : Type 0} (filler : T) (xs ys : List T) → length xs ≡ length ys
    → filled filler xs ≡ filled filler ys → xs ≡ ys
filled_same {T = T} filler xs ys long same =
    sym (front xs _) ∙ ap (λ (zs : List T). take (length xs) zs) same ∙ ap (λ (n : ℕ). take n (filled filler ys)) long
    ∙ front ys _
  where
    front : (zs more : List T) → take (length zs) (zs ++ more) ≡ zs
    front [] more = refl
    front (z ∷ zs) more = ap (λ (ws : List T). z ∷ ws) (front zs more)

-- so what says that they are the same filled up, and of one length, says that they are the same
filled_tells : {T : Type 0} (filler : T) (xs ys : List T) (bit : Bool)
    → Decides bit (filled filler xs ≡ filled filler ys) → Decides (bit && length xs == length ys) (xs ≡ ys)
filled_tells {T = T} filler xs ys bit tells = (
  λ is.
      let parts = and_parts bit (length xs == length ys) is in
      filled_same filler xs ys (eqb-true (length xs) (length ys) parts.1) (tells.0 parts.0),
  λ same.
      let whole = tells.1 (ap (λ (zs : List T). filled filler zs) same) in
      let long = eq-eqb (length xs) (length ys) (ap (λ (zs : List T). length zs) same) in
      simp (whole, long) refl,
)

fault_same : (a b : Fault) → Decides ((fault.ghosts).eq a b) (a ≡ b)
fault_same a b = grind arith

cause_same : (a b : Cause) → Decides ((cause.ghosts).eq a b) (a ≡ b)
cause_same a b = grind arith

done_same : (a b : Done) → Decides ((done.ghosts).eq a b) (a ≡ b)
done_same a b = grind (arith, fault_same)

nos_same : (a b : List ℕ) → Decides ((nos.ghosts).eq a b) (a ≡ b)
nos_same a b = filled_tells 0 a b _ (slice_eq-Decides Decides-eqb (filled 0 a) (filled 0 b) _ refl)

outs_same : (a b : Outs) → Decides ((outs.ghosts).eq a b) (a ≡ b)
outs_same a b =
    both (filled_tells Added a.done b.done _
    (slice_eq-Decides done_same (filled Added a.done) (filled Added b.done) _ refl))
  where
    both : {bit : Bool} → Decides bit (a.done ≡ b.done) → Decides (a.before == b.before && bit) (a ≡ b)
    both {bit = bit} same = (
      λ is.
          let parts = and_parts (a.before == b.before) bit is in
          ap (λ (n : ℕ). record { before = n; done = a.done }) (eqb-true a.before b.before parts.0)
          ∙ ap (λ (ds : List Done). record { before = b.before; done = ds }) (same.0 parts.1),
      λ equal.
          let before = eq-eqb a.before b.before (ap (λ (o : Outs). o.before) equal) in
          let done = same.1 (ap (λ (o : Outs). o.done) equal) in
          simp (before, done) refl,
    )

pub reply_same : (a b : Reply) → Decides ((reply.ghosts).eq a b) (a ≡ b)
reply_same (replies.Object n) b = grind arith
reply_same (replies.Notices ns q cycle k) b = grind (arith, nos_same)
reply_same (replies.Outs os) b = grind (arith, outs_same)
reply_same (replies.TookSome ns) b = grind (arith, nos_same)
reply_same (replies.Notice n q why) b = grind (arith, cause_same)
reply_same (replies.Refused why) (replies.Refused other) = grind (arith, fault_same why other)
reply_same (replies.Refused why) b = grind arith
reply_same a b = grind arith
