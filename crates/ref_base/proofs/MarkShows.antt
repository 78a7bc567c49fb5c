-- What a mark's end shows of each reference that it clears, in the world of the replay; and what stands after it.
use Rattle.ref_base.proofs.Common.{any_referent, arith, ◌≡◌, ℕ, true, false, List, [], ◌∷◌, ◌++◌, Some, refl, sym, ap}
use Rattle.ref_base.proofs.Common.{◌∙◌, subst, append_assoc, has, Object, is_there, IsKept, is_kept, MayDoom}
use Rattle.ref_base.proofs.Common.{new_clears, reference_at, World, graph_of, replayed, State, joined, without}
use Rattle.ref_base.proofs.Common.{referent_of, doomed_at, IsDead, MarkEnded, WasDoomed, Config, Marking, Row}
use Rattle.ref_base.proofs.NewClears.{has-new_clears}
use Rattle.ref_base.proofs.SeenObjects.{object_at-without, rising-without}
use Rattle.ref_base.proofs.AgreeHeaps.{Agreeing, there-without, unscanned-there}
use Rattle.ref_base.proofs.AgreeEnds.{as_there}
use Rattle.ref_base.proofs.ApartWorlds.{IsClosed}
use Rattle.ref_base.proofs.OffSets.{world_but, path_but}
use Rattle.ref_base.specs.declared.plain_step.PlainStep.TheVariants as plain
use Rattle.ref_base.specs.declared.step.Step.TheVariants as steps
use Rattle.ref_base.specs.declared.reply.Reply.TheVariants as replies

-- n is a reference, and its referent is dead
abbrev pub RefersToDead : World → ℕ → Type 0
RefersToDead w n = (referent : ℕ) × (referent_of (reference_at w.heap n) ≡ Some referent) × IsDead w referent

-- what a mark's end says, in the world of the replay
module _ (gone : List ℕ) (w : World) (a : State) (is : Agreeing gone w a) (marking : a.world.phase ≡ Marking)
    (closed : IsClosed any_referent (λ n. has gone n ≡ false) a.world)
    (may : MayDoom a.world.policy (graph_of a.world) a.moments (doomed_at a)) where
  there : a.world ≡ world_but gone w
  there = as_there gone w a Marking is.agrees marking refl

  objects : a.world.heap.objects ≡ without gone w.heap.objects
  objects = ap (λ (v : World). v.heap.objects) there

  known : (n : ℕ) → is_there a.world.heap.objects n ≡ true → (has gone n ≡ false) × (is_there w.heap.objects n ≡ true)
  known n at =
      there-without gone w.heap.objects n (subst (λ (os : List Object). is_there os n ≡ true) objects at)

  -- what it dooms is dead, also by paths among what was swept
  pub doomed_dead : (n : ℕ) → has (doomed_at a) n ≡ true → IsDead w n
  doomed_dead n doomed = record {
    there = (known n (unscanned-there a.world.heap.objects a.born (joined a.scanned) n doomed)).1;
    not_kept = λ kept.
        may.none_kept n doomed
        (subst (λ (v : World). IsKept v.policy (graph_of v) n) (sym there)
        (path_but (λ k. has gone k ≡ false) gone w (is_kept w.policy) (λ k out. out)
        (subst (λ (v : World). IsClosed any_referent (λ k. has gone k ≡ false) v) there closed) n kept).1);
  }

  -- a reference that it clears has one of these as its referent
  pub mark_shows : (n : ℕ) → has (new_clears a.world.heap.objects (doomed_at a)) n ≡ true
      → (has gone n ≡ false) × (has (doomed_at a) n ≡ false) × RefersToDead w n
  mark_shows n new = grind (arith, objects, rising-without, has-new_clears, known, object_at-without, doomed_dead)

-- ---- in a trace

-- the row of a mark's end shows what it shows in the world that the rows before it give by replay
module _ (config : Config) (past : List Row) (count : ℕ) where
  abbrev pub ended : List Row
  ended = past ++ record { step = steps.Plain plain.EndMark; reply = replies.Doomed count } ∷ []

  pub mark_ended : (n : ℕ) → RefersToDead (replayed config past) n
      → MarkEnded config ended (replayed config past).cycle n
  mark_ended n refers = grind arith

  pub was_doomed : (n : ℕ) → IsDead (replayed config past) n → WasDoomed config ended n
  was_doomed n dead =
      record { before = past; count = count; behind = []; is_earlier = refl; dead = dead }

-- a row of some rows is one of more
earlier_more : (rows more before behind : List Row) (row : Row) → before ++ row ∷ behind ≡ rows
    → before ++ row ∷ (behind ++ more) ≡ rows ++ more
earlier_more rows more before behind row is =
    sym (append_assoc before (row ∷ behind) more) ∙ ap (λ rs. rs ++ more) is

-- what a mark's end showed stays shown
pub ended_more : (config : Config) (rows more : List Row) (cycle n : ℕ) → MarkEnded config rows cycle n
    → MarkEnded config (rows ++ more) cycle n
ended_more config rows more cycle n is = search (earlier_more rows more is.before is.behind)

pub doomed_more : (config : Config) (rows more : List Row) (n : ℕ) → WasDoomed config rows n
    → WasDoomed config (rows ++ more) n
doomed_more config rows more n is = search (earlier_more rows more is.before is.behind)
