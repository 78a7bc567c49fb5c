-- In each state to which rows lead hands and queues are right, whatever is named lives, and numbers rise.
use Rattle.ref_base.proofs.Common.{arith, ◌≡◌, ℕ, ◌≤◌, ◌<◌, true, [], refl, sym, ap, ◌∙◌, subst, inl, inr, State, has}
use Rattle.ref_base.proofs.Common.{enqueued, object_of, queue_at, joined, length-replicate, false≢true, replicate, zero}
use Rattle.ref_base.proofs.Common.{suc}
use Rattle.ref_base.specs.Members.{AreDistinct}
use Rattle.ref_base.specs.declared.config.Config.{Config}
use Rattle.ref_base.specs.declared.reply.Reply.{Reply}
use Rattle.ref_base.specs.declared.row.Row.{Row}
use Rattle.ref_base.proofs.Fitting.{with_scanned}
use Rattle.ref_base.proofs.HeapTurns.{at_rest}
use Rattle.ref_base.proofs.LegalMarks.{ListsAreWhole}
use Rattle.ref_base.proofs.OneQueue.{next_heap}
use Rattle.ref_base.proofs.SoundWorlds.{first_queue}
use Rattle.ref_judge.specs.ProfiledRows.{IsRowAs}
use Rattle.ref_judge.specs.Standing.{Lawful}
use Rattle.ref_judge.specs.declared.profile.Profile.{Profile}
use Rattle.ref_judge.proofs.LawfulRuns.{lawful_holds}
use Rattle.ref_judge.proofs.LiveNames.{LiveNames, live_turn, first_live}
use Rattle.ref_judge.proofs.RightWorlds.{IsRight, right_row, first_right}
use Rattle.ref_judge.proofs.RowTurns.{IsTurnAs, turn_as}
use Rattle.ref_judge.proofs.WholeLists.{whole_row_as}

module _ (p : Profile) (config : Config) where
  pub lawful_right : (a : State) → Lawful p config a → IsRight a.world
  lawful_right =
      lawful_holds p config (λ a. IsRight a.world) (first_right config)
      (λ a b row lawful right h. (right_row p a b right row h).0)

  -- what comes of a row at its heap
  pub lawful_turn : (a b : State) (row : Row) → Lawful p config a → IsRowAs p a row b → IsTurnAs p a row.reply b
  lawful_turn a b row lawful h = turn_as p a b (lawful_right a lawful).counted row h

  pub lawful_live : (a : State) → Lawful p config a → LiveNames a
  lawful_live =
      lawful_holds p config LiveNames (first_live config)
      (λ a b row lawful names h. live_turn p a b row.reply (lawful_turn a b row lawful h) names)

  none_joined : (count : ℕ) → joined (replicate count []) ≡ []
  none_joined zero = refl
  none_joined (suc count) = none_joined count

  -- no object stands twice among what was scanned
  pub lawful_lists : (a : State) → Lawful p config a → ListsAreWhole a
  lawful_lists =
      lawful_holds p config ListsAreWhole
      (subst AreDistinct (sym (none_joined config.workers)) tt, length-replicate config.workers [])
      (λ a b row lawful whole h. whole_row_as p a b whole row h)

-- ---- what was ever put in

next_same : (a b : State) → at_rest b ≡ at_rest a → b.next ≡ a.next
next_same a b same = ap (λ (s : State). s.next) same

-- the next number doesn't fall
next_turn : (p : Profile) (a b : State) (reply : Reply) → IsTurnAs p a reply b → a.next ≤ b.next
next_turn p a b reply (inl same) = let is = next_same a b same in omega (arith, is)
next_turn p a b reply (inr (inl of)) =
    let is = next_same of.left b of.after in
    let grows = next_heap a of.left of.step reply of.accepts in omega (arith, is, grows)
next_turn p a b reply (inr (inr (inl of))) =
    let is = next_same (with_scanned a of.worker of.object) b of.after in omega (arith, is)
next_turn p a b reply (inr (inr (inr of))) =
    let is = next_same of.left b of.after in
    let ends = ap (λ (s : State). s.next) of.ends.after in omega (arith, is, ends)

abbrev PutBelow : State → Type 0
PutBelow a = (q n : ℕ) → has (enqueued object_of (queue_at a.world q)) n ≡ true → n < a.next

-- what was ever put in has a number below the next
pub lawful_put : (p : Profile) (config : Config) (a : State) → Lawful p config a → PutBelow a
lawful_put p config =
    lawful_holds p config PutBelow
    (λ q n h.
    absurd (false≢true (sym (ap (λ l. has (enqueued object_of l) n) (first_queue config q)) ∙ h)))
    (λ a b row lawful below h q n put.
    let names : LiveNames a = lawful_live p config a lawful in
    let grows : a.next ≤ b.next = next_turn p a b row.reply (lawful_turn p config a b row lawful h) in
    elim ((right_row p a b (lawful_right p config a lawful) row h).1 q n put) [
      | inl before ↦ let less = below q n before in omega (arith, less, grows)
      | inr held ↦
          let less = names.below n (names.closed.holds n held).0 in omega (arith, less, grows)
    ])
