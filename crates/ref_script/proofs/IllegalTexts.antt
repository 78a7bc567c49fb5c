-- Texts that differ in one place from what a script or a graph text prints, and are none of it.
use Rattle.ref_script.proofs.Common.{◌≡◌, ℕ, ◌++◌, [], ◌∷◌, List, map, take, codes, refl, arith}
use Rattle.ref_script.proofs.Common.{Graph, plain_object, ObjectReach}
use Rattle.ref_script.proofs.Common.{Plain, DeclaresGraph, words_of, listing_text, SpellsScriptStep}
use Rattle.ref_script.proofs.Common.{trace_text, ScriptRow}
use Rattle.ref_script.proofs.Common.{ap, get_or}
use Rattle.std.proofs.lemmas.Fmt.{decimal_digit}
use Rattle.ref_base.specs.declared.plain_step.PlainStep.TheVariants.{Copy}
use Rattle.ref_script.specs.Listings.{PrintsStrengths}
use Rattle.ref_base.specs.declared.span_rule.SpanRule.TheVariants.{Fixed, Scaled}
use Rattle.ref_base.specs.declared.step.Step.TheVariants as world
use Rattle.ref_script.specs.declared.script_step.ScriptStep.TheVariants as steps

-- ---- the text of a trace

-- promise: run_script: the first row has number 1
-- rows are numbered from 1
the_first_row_has_number_1 : (row : ScriptRow) (rows : List ScriptRow)
    → take 13 (trace_text Fixed (row ∷ rows)) ≡ codes "reftrace 1" ++ 10 ∷ codes "1 "
the_first_row_has_number_1 row rows = rw (decimal_digit 1 (omega arith)) refl

-- the trace of a script of version 2 has its version
the_version_is_not_1 : (rows : List ScriptRow) → ¬ (take 10 (trace_text Scaled rows) ≡ codes "reftrace 1")
the_version_is_not_1 rows same =
    let last : 50 ≡ 49 = ap (λ (l : List ℕ). get_or l 9 0) same in absurd (omega (arith, last))

-- promise: run_script: slots are read in their order
-- `m0 copy s1 s0` is no copy into slot 0
slots_exchanged_are_not_spelt :
    ¬ (SpellsScriptStep (words_of (codes "m0 copy s1 s0")) (steps.World (world.Plain (Copy 0 0 1))))
slots_exchanged_are_not_spelt spelt = let into = spelt.1.1.0 in absurd cc

-- ---- listings

-- `refgraph 1`, `plain 5`
lone_object : Graph
lone_object = record { objects = plain_object 5 [] ∷ []; roots = [] }

it_is_declared : DeclaresGraph (codes "refgraph 1" ++ 10 ∷ codes "plain 5") lone_object
unfolding lone_object
it_is_declared = record {
  short = refl;
  lines = record {
    declared = Plain 5 [] ∷ [];
    said = record {
      plain = refl;
      told = (refl, ((refl, (refl, omega arith), tt, omega arith), tt));
      none_twice = (refl, tt);
    };
    graph_is = refl;
  };
}

a_lone_object : (listed : List ObjectReach) → map (λ l. l.object) listed ≡ 5 ∷ []
    → take 2 (listing_text listed) ≡ codes "5 "
a_lone_object [] same = absurd cc
a_lone_object (l ∷ listed) same = let first : l.object ≡ 5 = cc in rw (first, decimal_digit 5 (omega arith)) refl

-- promise: strength_text: an object is listed by its number
an_object_is_listed_by_its_number : (printed : List ℕ)
    → PrintsStrengths (codes "refgraph 1" ++ 10 ∷ codes "plain 5") printed → take 2 printed ≡ codes "5 "
unfolding lone_object
an_object_is_listed_by_its_number printed prints = grind (arith, a_lone_object)
