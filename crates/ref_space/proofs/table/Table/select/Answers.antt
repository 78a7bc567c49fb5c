use Rattle.ref_space.proofs.ReadLemmas.{read_is}
use Rattle.ref_space.specs.Tables.{round_of}
use Rattle.ref_space.proofs.Common.{◌≡◌, ◌∙◌, ap, sym, refl, length, false, Table}
use Rattle.std.proofs.Common.{None, [], true}
use Rattle.std.proofs.lemmas.List.{with_items_is}
use Rattle.std.specs.Vec.{with_items}
use Rattle.ref_space.specs.Moves.{ways_of, ways_chosen}
use Rattle.ref_space.specs.Pages.{choose_refusal, has_chosen, sparse_cells}
use Rattle.ref_space.specs.Tables.{selected_unless, unhealed_of}
use Rattle.ref_space.proofs.Common.{arith, by_number, length-map, occupants_of, seen_table, tabled_by, target_by}
use Rattle.ref_space.specs.declared.colour.Colour.TheVariants.{R}
use Rattle.ref_space.proofs.ChosenLemmas.{chosen_cells, count_left_now, few_left_now, left_now, none_refused}
use Rattle.ref_space.proofs.ChosenLemmas.{seen_chosen, sound_chosen, unhealed_seen, ways_reserved}
use Rattle.ref_space.proofs.table.Table.select.Goals as goal
use Rattle.ref_space.proofs.table.Table.select.Given.{Over}

is_refused : (g : Over) (c : goal.After-self-5-1 g) → choose_refusal c.self.inside.pages ≡ None
is_refused g c =
    none_refused c.self.inside.pages c.in_ok-cells.cells (sym c.choose.ensures.answer ∙ c.in_ok-cells.was)

chosen_so : (g : Over) (c : goal.After-self-5-1 g)
    → ways_of c.reserve.new.self (with_items c.self.inside.forwards c.reserve.new.forwards).items
    c.self.inside.round.good false
    ≡ ways_chosen
    (ways_of c.self.inside.pages c.self.inside.forwards.items c.self.inside.last_good c.self.inside.is_tuned)
    c.self.inside.round.good
chosen_so g c =
    ways_reserved
    (ways_of c.self.inside.pages c.self.inside.forwards.items c.self.inside.last_good c.self.inside.is_tuned)
    c.self.inside.round.good c.choose.ensures.after (is_refused g c) c.deref_mut.ensures.value c.reserve.ensures
    (with_items_is c.self.inside.forwards c.reserve.new.forwards
    (c.reserve.auto.forwards ∙ ap length c.deref_mut.ensures.value ∙ sym c.self.inside.forwards.ok.0))

tuned : (g : Over) (c : goal.After-self-5-1 g) → c.self.inside.is_tuned ≡ true
tuned g c = ap (λ (t : Table). t.ways.tuned) c.self.view_is ∙ c.requires.tuned

none : (g : Over) (c : goal.After-self-5-1 g) → has_chosen c.self.inside.pages.uses ≡ false
none g c = ap (λ (t : Table). has_chosen t.ways.pages.uses) c.self.view_is ∙ c.requires.none

healed : (g : Over) (c : goal.After-self-5-1 g)
    → unhealed_of c.self.inside.round.number (tabled_by c.self.inside.cells.items c.self.inside.index.items) ≡ []
healed g c =
    unhealed_seen (round_of c.self.inside.round c.self.inside.read.value) c.self.inside.cells.items
    c.self.inside.index.items
    (ways_of c.self.inside.pages c.self.inside.forwards.items c.self.inside.last_good c.self.inside.is_tuned)
    c.self.inside.slots.items c.self.inside.last c.self.inside.room c.self.view_is c.requires.healed

begun : (g : Over) (c : goal.After-self-5-1 g) → c.self.inside.round.good ≡ R → ⊥
begun g c same = c.requires.begun (ap (λ (t : Table). t.round.good) (sym c.self.view_is) ∙ same)

pub invariant_of-self-2 : goal.invariant_of-self-2
invariant_of-self-2 g c =
    sound_chosen c.self.invariant (tuned g c) (none g c) (chosen_so g c) (healed g c) (begun g c)
    (read_is c.self.inside.round.number R c.nothing_read.ensures)

seen : (g : Over) (c : goal.After-self-5-1 g)
    → seen_table (record { number = c.self.inside.round.number; good = R; read = c.nothing_read.result.value })
    (ways_of c.reserve.new.self (with_items c.self.inside.forwards c.reserve.new.forwards).items
    c.self.inside.round.good false)
    c.self.inside.cells.items c.self.inside.index.items c.self.inside.slots.items c.self.inside.last c.self.inside.room
    ≡ selected_unless None c.args.self.now
seen g c =
    seen_chosen c.self.invariant (tuned g c) (none g c) (chosen_so g c) (healed g c) (begun g c)
    (read_is c.self.inside.round.number R c.nothing_read.ensures) c.self.view_is

pub returns-clause-after : goal.returns-clause-after
returns-clause-after g c =
    seen g c
    ∙ ap (λ r. selected_unless r c.args.self.now)
    (sym (ap (λ (t : Table). choose_refusal t.ways.pages) (sym c.self.view_is) ∙ is_refused g c))

count_is : (g : Over) (c : goal.After-self-5-1 g)
    → c.in_ok-cells.cells ≡ sparse_cells c.self.inside.pages.uses
count_is g c =
    chosen_cells c.self.inside.pages c.in_ok-cells.cells (sym c.choose.ensures.answer ∙ c.in_ok-cells.was)

pub returns-clause-count : goal.returns-clause-count
returns-clause-count g c =
    count_left_now c.self.invariant (tuned g c) (none g c) (chosen_so g c) (healed g c) (begun g c)
    (read_is c.self.inside.round.number R c.nothing_read.ensures) refl
    c.in_ok-cells.cells (count_is g c)

pub returns-clause-few : goal.returns-clause-few
returns-clause-few g c =
    let few = few_left_now c.self.invariant (tuned g c) (none g c) (chosen_so g c) (healed g c) (begun g c)
    (read_is c.self.inside.round.number R c.nothing_read.ensures)
    c.in_ok-cells.cells (count_is g c) in
    let seen = ap (λ (t : Table). length t.tabled) c.self.view_is in
    omega (
      arith,
      few,
      seen,
      length-map (tabled_by c.self.inside.cells.items c.self.inside.index.items) (by_number
          (target_by (ways_of c.self.inside.pages c.self.inside.forwards.items c.self.inside.last_good
          c.self.inside.is_tuned)
          (occupants_of c.self.inside.cells.items))),
    )

pub returns-clause-left : goal.returns-clause-left
returns-clause-left g c =
    left_now c.self.invariant (tuned g c) (none g c) (chosen_so g c) (healed g c) (begun g c)
    (read_is c.self.inside.round.number R c.nothing_read.ensures) refl c.self.view_is
