-- Worked rows of a log whose objects have names, or have none, and lines that are no such rows.
use Rattle.ref_script.proofs.Common.{◌≡◌, ℕ, ◌^◌, ◌==◌, true, false, List, [], ◌∷◌, Option, Some, None, codes}
use Rattle.ref_script.proofs.Common.{Config, ap, arith, refl, subst, sym, words_of}
use Rattle.std.specs.Fmt.{digits}
use Rattle.ref_base.proofs.WorkedTraces.{row, config_of}
use Rattle.ref_base.specs.Collectors.{State, first_state}
use Rattle.ref_base.specs.Graphs.{is_there}
use Rattle.ref_base.specs.declared.plain_step.PlainStep.TheVariants.{Clear, Drop, New}
use Rattle.ref_base.specs.declared.reply.Reply.TheVariants.{Done, Object}
use Rattle.ref_base.specs.declared.row.Row.{Row}
use Rattle.ref_base.specs.declared.step.Step.TheVariants.{Plain}
use Rattle.ref_judge.specs.ObjectsBehind.{TellsObjects}
use Rattle.ref_judge.specs.ProfiledRows.{strict}
use Rattle.ref_script.proofs.ReplyAnswers.{one_answer}
use Rattle.ref_script.specs.ReplyKinds.{IsToldSo, NoneIsToldSo, reply_kind_of}
use Rattle.ref_script.specs.Spelling.{SpellsScriptStep}
use Rattle.ref_script.specs.WorldRows.{world_row}
use Rattle.ref_script.specs.declared.reply_kind.ReplyKind.TheVariants.{One}
use Rattle.ref_script.specs.declared.script_step.ScriptReply.TheVariants as said
use Rattle.ref_script.specs.declared.script_step.ScriptRow.{ScriptRow}
use Rattle.ref_script.specs.declared.script_step.ScriptStep.TheVariants as steps
use Rattle.ref_log.proofs.NamedLines.{names_alone}
use Rattle.ref_log.proofs.RowLaws.{none_unanswered, row_there}
use Rattle.ref_log.specs.LogRows.{Parts, SpellsNoRow, SpellsRow, no_padding, parted, unnumbered}
use Rattle.ref_log.specs.NamedRows.{AreRows, NamesBehind, SpellsNone, SpellsPart, free_name, with_numbers}
use Rattle.ref_log.specs.Names.{Given}
use Rattle.ref_log.specs.RowTexts.{in_script}
use Rattle.ref_log.specs.declared.fault.LogFault.{LogFault}
use Rattle.ref_log.specs.declared.fault.LogFault.TheVariants.{NoReply}

abbrev config : Config
config = config_of 1

-- ---- objects behind no row

none_there : TellsObjects strict config [] (λ n. false) 1
none_there = record {
  objects = λ s run n. ap (λ (a : State). is_there a.world.heap.objects n) (sym run);
  number = λ s run. ap (λ (a : State). a.next) run;
}

-- the first object has number 1
no_other_number : ¬ (TellsObjects strict config [] (λ n. false) 2)
no_other_number tells = let next : 1 ≡ 2 = tells.number (first_state config) refl in absurd (omega (arith, next))

-- ---- names

-- an address that was given to object 1
abbrev given : List Given
given = record { name = codes "0x7f10"; number = 1 } ∷ []

-- A name is free once its object is gone. One that is there keeps its name. None is given where numbers are spent.
free_names : (free_name (λ n. false) 2 given (Some (codes "0x7f10")) ≡ Some (codes "0x7f10"))
    × (free_name (λ n. n == 1) 2 given (Some (codes "0x7f10")) ≡ None)
    × (free_name (λ n. false) (2 ^ 32) given (Some (codes "0x7f10")) ≡ None)
free_names = (refl, refl, refl)

abbrev makes_one : List (List ℕ)
makes_one = words_of (codes "m0 new s0 0 : object 0x7f10")

gives_a_name : NamesBehind strict config [] (Some []) makes_one (Some given)
gives_a_name = record { there = λ n. false; next = 1; objects = none_there; names_are = refl }

given_alone : (later : Option (List Given)) → NamesBehind strict config [] (Some []) makes_one later
    → later ≡ Some given
given_alone later =
    names_alone strict config [] (Some []) (Some given) later makes_one (first_state config, refl) gives_a_name

gives_no_less : ¬ (NamesBehind strict config [] (Some []) makes_one (Some []))
gives_no_less naming = let same = given_alone (Some []) naming in absurd cc

without_names : (words : List (List ℕ)) → NamesBehind strict config [] None words None
without_names words = record { there = λ n. false; next = 1; objects = none_there; names_are = refl }

-- ---- rows

-- where the parts of a line spell a row behind no other, that is the line's part
part_of : {words : List (List ℕ)} {names later : Option (List Given)} (parts : Parts) (spelt : ScriptRow)
    → NamesBehind strict config [] names words later → parted (unnumbered (with_numbers later words)) ≡ Some parts
    → SpellsScriptStep parts.front spelt.step → no_padding parts.front ≡ true
    → IsToldSo (reply_kind_of spelt.step) parts.back spelt.reply
    → SpellsPart strict config [] names words (world_row spelt.step spelt.reply) later
part_of parts spelt naming so step exact told =
    record { naming = naming; row = spelt; spelt = row_there _ _ refl parts so spelt step exact told; part_is = refl }

abbrev new_row : Row
new_row = row (Plain (New 0 0 0)) (Object 1)

new_part : SpellsPart strict config [] (Some []) makes_one (new_row ∷ []) (Some given)
unfolding digits
new_part =
    part_of (record { front = words_of (codes "m0 new s0 0"); back = words_of (codes "object 1") }) (in_script new_row)
    gives_a_name refl (refl, (refl, (refl, (refl, tt)))) refl
    (record { of_kind = refl; ranges = omega arith; words_are = refl })

named_rows : AreRows strict config (Some []) (makes_one ∷ []) (new_row ∷ []) (Some given)
named_rows = (new_row ∷ [], [], Some given, refl, new_part, (refl, refl))

abbrev drop_row : Row
drop_row = row (Plain (Drop 0 1)) Done

unnamed_rows : AreRows strict config None (words_of (codes "m0 drop s1 : ok") ∷ []) (drop_row ∷ []) None
unnamed_rows =
    let part =
    part_of (record { front = words_of (codes "m0 drop s1"); back = words_of (codes "ok") }) (in_script drop_row)
    (without_names (words_of (codes "m0 drop s1 : ok"))) refl (refl, (refl, (refl, tt))) refl
    (record { of_kind = refl; ranges = tt; words_are = refl }) in
    (drop_row ∷ [], [], None, refl, part, (refl, refl))

-- a job that was gone is no row of the collector
a_job_gone : SpellsPart strict config [] None (words_of (codes "m0 run s1 : gone")) [] None
a_job_gone =
    part_of (record { front = words_of (codes "m0 run s1"); back = words_of (codes "gone") })
    (record { step = steps.Run 0 1; reply = said.Gone }) (without_names (words_of (codes "m0 run s1 : gone"))) refl
    (refl, (refl, (refl, tt))) refl (record { of_kind = refl; ranges = tt; words_are = refl })

-- one that ran cleared its reference
a_job_ran : SpellsPart strict config [] None (words_of (codes "m0 run s1 : ran 3 1003"))
    (row (Plain (Clear 0 1)) Done ∷ []) None
unfolding digits
a_job_ran =
    part_of (record { front = words_of (codes "m0 run s1"); back = words_of (codes "ran 3 1003") })
    (record { step = steps.Run 0 1; reply = said.Ran (record { number = 3; answer = 1003 }) })
    (without_names (words_of (codes "m0 run s1 : ran 3 1003"))) refl (refl, (refl, (refl, tt))) refl
    (record { of_kind = refl; ranges = (omega arith, omega arith); words_are = refl })

-- ---- no rows

-- where objects have no names, a name is no reply
no_reply : NoneIsToldSo One (words_of (codes "object 0x7f10"))
no_reply (said.World r) told =
    one_answer (words_of (codes "object 0x7f10")) None refl r
    (record { of_kind = told.of_kind; ranges = told.ranges; words_are = told.words_are })
no_reply reply told = let kind = told.of_kind in absurd cc

no_row : SpellsNoRow makes_one
no_row =
    none_unanswered makes_one makes_one refl
    (record { front = words_of (codes "m0 new s0 0"); back = words_of (codes "object 0x7f10") }) refl
    (steps.World (Plain (New 0 0 0))) (refl, (refl, (refl, (refl, tt)))) no_reply

spells_none : SpellsNone strict config [] None makes_one NoReply
spells_none = record { later = None; naming = without_names makes_one; none = no_row; fault_is = refl }

-- its words spell this row, with numbers in the place of these names
abbrev SpellsNamed : ScriptRow → Option (List Given) → Type 0
SpellsNamed spelt names = SpellsRow (with_numbers names makes_one) spelt

no_part : (part : List Row) (later : Option (List Given)) → ¬ (SpellsPart strict config [] None makes_one part later)
no_part part later spells = no_row spells.row (subst (SpellsNamed spells.row) spells.naming.names_are spells.spelt)

no_rows : (rows : List Row) (last : Option (List Given)) → ¬ (AreRows strict config None (makes_one ∷ []) rows last)
no_rows rows last are = let (part, rest, later, parts, here, behind) = are in no_part part later here

-- where they have names, it spells one
spells_some : (fault : LogFault) → ¬ (SpellsNone strict config [] (Some []) makes_one fault)
spells_some fault spells =
    spells.none new_part.row
    (subst (SpellsNamed new_part.row) (sym (given_alone spells.later spells.naming)) new_part.spelt)
