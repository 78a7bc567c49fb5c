-- The definitions at work on what one can read off by hand.
use Rattle.ref_script.proofs.Common.{◌≡◌, ◌^◌, true, false, [], ◌∷◌, ◌++◌, Some, None, codes, refl, arith, Worker}
use Rattle.ref_script.proofs.Common.{Urgent}
use Rattle.ref_script.proofs.Common.{Refer, Put, Begin, lines_of, content_of, words_of, number_below, number_behind}
use Rattle.ref_script.proofs.Common.{script_fault, graph_fault, SpellsScriptStep, step_fault, declaration_fault, Root}
use Rattle.ref_script.proofs.Common.{Plain, Reference, SpellsDeclared, DeclaresGraph, Graph, plain_object, ExtraWord}
use Rattle.ref_script.proofs.Common.{DoubleObject, MissingWord, BadWord}
use Rattle.ref_script.proofs.Common.{ℕ, Config}
use Rattle.ref_base.specs.declared.span_rule.SpanRule.{SpanRule}
use Rattle.ref_base.specs.declared.span_rule.SpanRule.TheVariants.{Fixed, Scaled}
use Rattle.ref_script.specs.Versions.{header_rule, is_in_version}
use Rattle.ref_text.specs.declared.fault.LineFault.TheVariants.{UnknownStep, BadHeader, BadConfig, UnknownLine}
use Rattle.ref_text.specs.declared.fault.TextFault.TheVariants.{Line}
use Rattle.ref_base.specs.declared.step.Step.TheVariants as steps
use Rattle.ref_script.specs.declared.script_step.ScriptStep.TheVariants as scripts
use Rattle.ref_base.specs.declared.strength.Strength.TheVariants as strengths

-- ---- words and numbers

spaces_part_words : words_of (codes "  m0  put ") ≡ codes "m0" ∷ codes "put" ∷ []
spaces_part_words = refl

an_lf_begins_no_line : lines_of (97 ∷ 10 ∷ []) ≡ record { bytes = 97 ∷ []; is_ended = true } ∷ []
an_lf_begins_no_line = refl

one_cr_belongs_to_the_end : content_of (record { bytes = 97 ∷ 13 ∷ 13 ∷ []; is_ended = true }) ≡ 97 ∷ 13 ∷ []
one_cr_belongs_to_the_end = refl

a_cr_before_no_lf_stays : content_of (record { bytes = 97 ∷ 13 ∷ []; is_ended = false }) ≡ 97 ∷ 13 ∷ []
a_cr_before_no_lf_stays = refl

leading_zeros_are_allowed : number_behind (codes "s") (codes "s007") ≡ Some 7
leading_zeros_are_allowed = refl

twenty_digits_at_most : number_below (2 ^ 32) (codes "000000000000000000007") ≡ None
twenty_digits_at_most = refl

-- ---- versions

version_1_has_a_fixed_span : header_rule (words_of (codes "refscript 1")) ≡ Some Fixed
version_1_has_a_fixed_span = refl

version_2_has_a_scaled_one : header_rule (words_of (codes " refscript  2")) ≡ Some Scaled
version_2_has_a_scaled_one = refl

a_version_is_a_word : (header_rule (words_of (codes "refscript 02")) ≡ None)
    × (header_rule (words_of (codes "refscript 3")) ≡ None)
a_version_is_a_word = (refl, refl)

-- so many cells, and this rule
abbrev with_cells : ℕ → SpanRule → Config
with_cells cells rule = record { mutators = 1; workers = 1; queues = 1; cells = cells; span = 0; rule = rule }

version_1_has_fewer_cells :
    (is_in_version (with_cells 4096 Fixed) ≡ true) × (is_in_version (with_cells 4097 Fixed) ≡ false)
version_1_has_fewer_cells = (refl, refl)

version_2_has_more :
    (is_in_version (with_cells 65536 Scaled) ≡ true) × (is_in_version (with_cells 65537 Scaled) ≡ false)
version_2_has_more = (refl, refl)

too_many_cells_for_version_1 :
    script_fault (codes "refscript 1" ++ 10 ∷ codes "config 1 1 1 65536 0") ≡ Some (Line 2 BadConfig)
too_many_cells_for_version_1 = refl

and_not_for_version_2 : script_fault (codes "refscript 2" ++ 10 ∷ codes "config 1 1 1 65536 0") ≡ None
and_not_for_version_2 = refl

-- ---- faults go by kind and not by place

a_step_is_spelt : SpellsScriptStep (words_of (codes "m0 weak s1 s00 - 2"))
    (scripts.World (steps.Plain (Refer 0 strengths.Weak 1 0 None 2)))
a_step_is_spelt = (refl, (refl, (refl, (refl, (refl, (refl, tt))))))

a_job_has_a_number : SpellsScriptStep (words_of (codes "m0 job s1 063")) (scripts.Job 0 1 63)
a_job_has_a_number = (refl, (refl, (refl, (refl, tt))))

a_worker_puts : SpellsScriptStep (words_of (codes "w03 put")) (scripts.World (Put (Worker 3)))
a_worker_puts = (refl, (refl, tt))

the_clock_is_below_two_to_the_64 : SpellsScriptStep (words_of (codes "begin 18446744073709551615 urgent"))
    (scripts.World (steps.Plain (Begin 18446744073709551615 Urgent)))
the_clock_is_below_two_to_the_64 = (refl, (refl, (refl, tt)))

a_greater_clock_is_a_bad_word : step_fault (words_of (codes "begin 18446744073709551616 urgent")) ≡ Some BadWord
a_greater_clock_is_a_bad_word = refl

an_urgency_has_two_names : step_fault (words_of (codes "begin 5 Normal")) ≡ Some BadWord
an_urgency_has_two_names = refl

a_step_is_of_its_actors : (step_fault (words_of (codes "w0 new s0 0")) ≡ Some UnknownStep) ×
    (step_fault (words_of (codes "m0 scan")) ≡ Some UnknownStep)
a_step_is_of_its_actors = (refl, refl)

a_turn_has_no_actor : step_fault (words_of (codes "w0 endmark")) ≡ Some UnknownStep
a_turn_has_no_actor = refl

a_name_may_be_missing : step_fault (words_of (codes "w0")) ≡ Some UnknownStep
a_name_may_be_missing = refl

the_rest_of_the_first_word_is_a_number : step_fault (words_of (codes "move put")) ≡ Some BadWord
the_rest_of_the_first_word_is_a_number = refl

missing_comes_before_bad : step_fault (words_of (codes "mx new s0")) ≡ Some MissingWord
missing_comes_before_bad = refl

bad_comes_before_extra : step_fault (words_of (codes "m0 new 0 0 0")) ≡ Some BadWord
bad_comes_before_extra = refl

an_extra_word_is_no_bad_one : step_fault (words_of (codes "m0 put x")) ≡ Some ExtraWord
an_extra_word_is_no_bad_one = refl

a_header_that_never_comes : script_fault [] ≡ Some (Line 1 BadHeader)
a_header_that_never_comes = refl

-- ---- graph texts

a_reference_is_spelt : SpellsDeclared (words_of (codes "weak 04 - 5 -"))
    (Reference 4 strengths.Weak None (Some 5 ∷ None ∷ []))
a_reference_is_spelt =
    (refl, (refl, omega arith), refl, ((refl, omega arith), (refl, tt)), omega arith)

a_ninth_field_is_an_extra_word : declaration_fault (words_of (codes "plain 1 2 2 2 2 2 2 2 2 x")) ≡ Some ExtraWord
a_ninth_field_is_an_extra_word = refl

an_eighth_field_may_be_a_bad_word : declaration_fault (words_of (codes "plain 1 2 2 2 2 2 2 2 x 2")) ≡ Some BadWord
an_eighth_field_may_be_a_bad_word = refl

no_object_has_the_number_0 : declaration_fault (words_of (codes "plain 0")) ≡ Some BadWord
no_object_has_the_number_0 = refl

a_reference_wants_a_referent : declaration_fault (words_of (codes "soft x")) ≡ Some MissingWord
a_reference_wants_a_referent = refl

an_edge_is_an_unknown_line : declaration_fault (words_of (codes "edge")) ≡ Some UnknownLine
an_edge_is_an_unknown_line = refl

-- `refgraph 1`, `plain 1`, `soft 01 -`
an_object_is_declared_once : graph_fault (codes "refgraph 1" ++ 10 ∷ codes "plain 1" ++ 10 ∷ codes "soft 01 -")
    ≡ Some (Line 3 DoubleObject)
an_object_is_declared_once = refl

one_root : Graph
one_root = record { objects = plain_object 2 (None ∷ []) ∷ []; roots = 2 ∷ [] }

-- `refgraph 1`, `root 2`, `plain 2 -`, `root 02`
it_is_declared : DeclaresGraph
    (codes "refgraph 1" ++ 10 ∷ codes "root 2" ++ 10 ∷ codes "plain 2 -" ++ 10 ∷ codes "root 02")
    one_root
unfolding one_root
it_is_declared = record {
  short = refl;
  lines = record {
    declared = Root 2 ∷ Plain 2 (None ∷ []) ∷ Root 2 ∷ [];
    said = record {
      plain = refl;
      told = (
        refl,
        (
          (refl, (refl, omega arith)),
          ((refl, (refl, omega arith), (refl, tt), omega arith), ((refl, (refl, omega arith)), tt)),
        ),
      );
      none_twice = (refl, (refl, (refl, tt)));
    };
    graph_is = refl;
  };
}
