-- What a handle owns: nothing where its pointer is null, and else a world or a judge in a box.
use base.Fml.{Fml, feq, fex}
use base.Stored.{Coded}
use denote.RattleType.{RattleType}
use denote.RawPtr.{Ptr, null_ptr}
use Rattle.std.specs.Coded.{coded_option}
use Rattle.std.specs.declared.option.Option.{Option}
use Rattle.std.specs.declared.option.Option.TheVariants.{None, Some}
use Rattle.std.specs.declared.alloc.Global.{Global}
use Rattle.std.specs.contracts.impls.GlobalAllocator.TheImpl.{ghosts}
use Rattle.std_alloc.specs.Box.Ownership.{box_owns}
use Rattle.std_alloc.specs.declared.boxed.Box.{Box}
use Rattle.ref_c.specs.contracts.judged.KeptJudge as judged
use Rattle.ref_c.specs.contracts.kept.Kept as kept

-- ---- of any type

-- a box at this place
abbrev pub boxed : (R : RattleType) → Global → Ptr → R.Denot → Fml
boxed R a = box_owns (ghosts.dealloc_token a) R

-- what a handle with this pointer owns
abbrev pub holds : (R : RattleType) → Ptr → Option R.Denot → Fml
holds R p None = feq Ptr p null_ptr
holds R p (Some x) = fex Global (λ a. boxed R a p x)

-- what is in a box, if there is one
abbrev pub kept_in : {T : Type 0} → Option (Box T Global) → Option T
kept_in None = None
kept_in (Some kept) = Some kept.value

-- ---- of a world that can be dropped

abbrev pub KeptWorld : Type 0
KeptWorld = (kept.the_row).Denot

abbrev pub held_coded : Coded (Option KeptWorld)
held_coded = coded_option (kept.the_row).coded

abbrev pub holds_world : Ptr → Option KeptWorld → Fml
holds_world = holds kept.the_row

-- ---- of a judge

abbrev pub KeptJudge : Type 0
KeptJudge = (judged.the_row).Denot

abbrev pub judge_coded : Coded (Option KeptJudge)
judge_coded = coded_option (judged.the_row).coded

abbrev pub holds_judge : Ptr → Option KeptJudge → Fml
holds_judge = holds judged.the_row
