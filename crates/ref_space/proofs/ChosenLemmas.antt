-- What holds of a table once pages were chosen, and once the chosen pages have new addresses.
use Rattle.ref_space.proofs.Common.{◌≡◌, ℕ, ◌+◌, ◌*◌, ◌/◌, ◌%◌, ◌^◌, ◌<◌, ◌≤◌, Bool, true, false, refl, sym, ap, subst}
use Rattle.ref_space.proofs.Common.{◌∙◌}
use Rattle.ref_space.proofs.Common.{arith, List, [], ◌∷◌, length, map, Option, is_none, inl, inr, cases_Bool}
use Rattle.ref_space.proofs.Common.{Tabled, Table, Entry, tabled_by, occupants_of, seen_table, target_by, leads_by}
use Rattle.ref_space.proofs.Common.{IsPlaced, IsSoundTable, IsSoundNaming, EachHeld, false≢true}
use Rattle.std.proofs.lemmas.Bool.{true≢false}
use Rattle.ref_space.specs.Tables.{RoundView}
use Rattle.ref_space.proofs.ReadLemmas.{none_read}
use Rattle.ref_space.specs.declared.colour.Colour.{Colour}
use Rattle.ref_space.specs.declared.colour.Colour.TheVariants.{R}
use Rattle.ref_space.specs.Pages.{Use, Pages, AreWhole, AreBetween, Packed, opened, taken_of, taken_cells, has_chosen}
use Rattle.ref_space.specs.Pages.{chosen_frames, choosing, left_in, reserving, with_chosen, is_chosen_place}
use Rattle.ref_space.specs.Pages.{is_free_place, page_at}
use Rattle.ref_space.specs.Moves.{Ways, AreFree, NoneLeaves, ways_chosen, ways_renumbered, is_vacant}
use Rattle.ref_space.specs.Tables.{unhealed_of, table_renumbered}
use Rattle.std.proofs.Common.{zero, suc, ◌++◌, get_or, nat_lt, ltb-true, ltb-false, None, Some}
use Rattle.std.specs.Prelude.{Result, Ok, Err}
use Rattle.std.proofs.lemmas.List.{get_or_past}
use Rattle.ref_base.specs.declared.fault.Fault.{Fault}
use Rattle.ref_space.specs.Bits.{count_clear}
use Rattle.ref_space.specs.Pages.{use_at, place_of, is_free_at, all_free, empty_pages, renumbered_uses, AreEmptied}
use Rattle.ref_space.specs.Pages.{choice, chosen_or, chosen_unless, choose_refusal, after_choice, sparse_cells}
use Rattle.ref_space.specs.Moves.{ways_of, ways_by}
use Rattle.ref_space.proofs.FrameLemmas.{frame_within, place-frame}
use Rattle.ref_space.proofs.CallLemmas.{between-renumbered_from, chosen-renumbered, framed-renumbered}
use Rattle.ref_space.proofs.CallLemmas.{length-renumbered}
use Rattle.ref_space.proofs.CallLemmas.{whole-renumbered}
use Rattle.ref_space.proofs.RelocationLemmas.{free-renumbered, packed-renumbered}
use Rattle.ref_space.specs.Tables.{left_of, numbers_at}
use Rattle.ref_space.proofs.FreeLemmas.{some-vacant}
use Rattle.ref_space.proofs.LeftNumbers.{left_lies, numbers-length}
use Rattle.ref_space.proofs.SelectLemmas.{none_there}
use Rattle.ref_space.proofs.MoveLemmas.{none_chosen, opened_all}
use Rattle.ref_space.proofs.CallLemmas.{between-choosing, whole-choosing, framed-choosing, length-choosing}
use Rattle.ref_space.proofs.RelocationLemmas.{taken_split, pages_split, few_sparse, packed-chosen}
use Rattle.ref_space.proofs.ReserveLemmas.{KeepsChosen, keeps_reserving}
use Rattle.ref_space.proofs.LeftPlaces.{left_kept, count_left, distinct_left, is_left}
use Rattle.ref_space.proofs.SelectLemmas.{AreReserved, reserved_all, partly_first, all_reserved}
use Rattle.ref_space.proofs.HealedWords.{all_healed, target_still, leads_chosen, leads_opened}
use Rattle.ref_space.proofs.NamingLemmas.{each_to, held_to, map_same, named_same, numbers_by-named}

taken-choosing : (ps : List Use) → taken_of (choosing ps) ≡ taken_of ps
taken-choosing [] = refl
taken-choosing (p ∷ ps) = grind (arith, taken-choosing ps)

module _ {round : RoundView} {cells : List (Option Tabled)} {es : List Entry} {ways : Ways} {slots : List (Option ℕ)}
    {last room count index_room marked : ℕ}
    (sound : IsSoundTable round cells es ways last room count index_room marked
    × IsSoundNaming round ways cells es slots) (is_tuned : ways.tuned ≡ true)
    (none : has_chosen ways.pages.uses ≡ false)
  where
    abbrev ps : List Use
    ps = ways.pages.uses

    abbrev bs : List Bool
    bs = map is_none cells

    abbrev start : Pages × List ℕ
    start = (with_chosen ways.pages, ways.forwards)

    abbrev left : List ℕ
    left = left_in (choosing ps)

    no_frames : chosen_frames ps ≡ []
    no_frames = none_chosen ps none

    free : AreFree bs ways.forwards ps
    free = sound.0.placed.free

    whole : AreWhole (choosing ps)
    whole = whole-choosing ps free.whole

    all_open : opened ps ≡ ps
    all_open = opened_all ps no_frames

    packed : Packed ((room + 63) / 64) ps
    packed = subst (Packed ((room + 63) / 64)) all_open sound.0.packed

    -- all that lies there is counted
    counted : taken_of (opened (choosing ps)) + length left ≡ length (tabled_by cells es)
    counted =
        count_left (choosing ps) (framed-choosing ps free.framed) whole ∙ taken-choosing ps
        ∙ ap taken_of (sym all_open) ∙ sound.0.placed.taken

    few : taken_of (opened (choosing ps)) + length left ≤ room
    few = omega (arith, counted, sound.0.counted, sound.0.within)

    enough : room ≤ 64 * length (opened (choosing ps))
    enough =
        let split = pages_split ps no_frames in
        let sparse = few_sparse ((room + 63) / 64) ps packed in
        omega (arith, split, sparse, sound.0.twice)

    reserved_left : AreReserved bs start [] left
    reserved_left =
        reserved_all bs left start [] (partly_first free no_frames)
        (distinct_left (choosing ps) (framed-choosing ps free.framed) whole) (λ p in_it. refl)
        (λ p in_it.
        let within = (is_left (choosing ps) (framed-choosing ps free.framed) whole p in_it).within in
        omega (arith, within, free.sized, length-choosing ps))
        (omega (arith, few, enough))

    kept : KeepsChosen (choosing ps) (reserving start left).0.uses
    kept = keeps_reserving start left

    module _ {more : Ways} (is : more ≡ ways_chosen ways round.good) where
      placed_chosen : IsPlaced cells es more last
      placed_chosen = rw is (record {
        rises = sound.0.placed.rises;
        given = sound.0.placed.given;
        free = all_reserved (framed-choosing ps free.framed) whole kept reserved_left.partly;
        settled = λ untuned. absurd (false≢true untuned);
        taken = reserved_left.taken ∙ counted;
        rising = subst (AreBetween 1 (reserving start left).0.uses) (sym reserved_left.next)
            (reserved_left.rising 1 ways.pages.next (between-choosing 1 ways.pages.next ps sound.0.placed.rising));
        addressed = let same = reserved_left.next in let small = sound.0.placed.addressed in omega (arith, same, small);
        small = sound.0.placed.small;
        few = sound.0.placed.few;
      })

      abbrev os : List (Option ℕ)
      os = occupants_of cells

      module _ (healed : unhealed_of round.number (tabled_by cells es) ≡ []) (begun : round.good ≡ R → ⊥)
          {next : RoundView}
          (moves : next ≡ record round { good = R; read = None }) where
        abbrev stays : Bool → Option ℕ → Bool
        stays b v = leads_by round.good ways os true v

        held : EachHeld round.number stays (tabled_by cells es)
        held = all_healed round.number (leads_by round.good ways os) (tabled_by cells es) sound.1.led healed

        last_is : more.last ≡ round.good
        last_is = ap (λ (s : Ways). s.last) is

        untuned : more.tuned ≡ false
        untuned = ap (λ (s : Ways). s.tuned) is

        still : (b : Bool) (v : Option ℕ) → stays b v ≡ true → leads_by R more os b v ≡ true
        still b v leads = leads_chosen round.good ways os is_tuned sound.1.apart more last_is untuned R v leads b

        named : (b : Bool) (v : Option ℕ) → stays b v ≡ true → target_by more os v ≡ target_by ways os v
        named b v leads = target_still round.good ways os is_tuned sound.1.apart more v leads

        pub sound_chosen : IsSoundTable next cells es more last room count index_room marked
            × IsSoundNaming next more cells es slots
        sound_chosen =
            rw moves (
              record {
                placed = placed_chosen;
                cells_fit = sound.0.cells_fit;
                open_fit = let pages = ap (λ (s : Ways). length
                    (opened s.pages.uses)) is in let same = reserved_left.pages in
                    omega (arith, pages, same, enough);
                twice = ap (λ (s : Ways). length s.pages.uses) is ∙ kept.size ∙ length-choosing ps ∙ sound.0.twice;
                packed = subst (λ (s : Ways). Packed ((room + 63) / 64) (opened s.pages.uses)) (sym is)
                    (reserved_left.packed ((room + 63) / 64) (packed-chosen ((room + 63) / 64) ps no_frames packed)
                    (omega (arith, few)));
                counted = sound.0.counted;
                within = sound.0.within;
                index_fits = sound.0.index_fits;
                marks_counted = sound.0.marks_counted;
              },
              record {
                listed = sound.1.listed;
                rooted = each_to round.number stays (leads_by R more os) still true slots sound.1.rooted;
                begun = sound.1.begun;
                apart = λ place chosen same. begun (sym last_is ∙ same);
                led = held_to round.number stays (leads_by R more os) still (tabled_by cells es) held;
                read = λ p k at. none_read (record round { good = R; read = None }) refl k;
              },
            )

        pub seen_chosen : {t : Table} → seen_table round ways cells es slots last room ≡ t
            → seen_table next more cells es slots last room
            ≡ record t { ways = ways_chosen t.ways t.round.good; round = record t.round { good = R; read = None } }
        seen_chosen view =
            (λ i. record {
              tabled = named_same round.number stays (target_by more os) (target_by ways os) named
                  (tabled_by cells es) held i;
              room = room;
              last = last;
              slots = map_same round.number stays (target_by more os)
                  (target_by ways os) named true slots sound.1.rooted i;
              ways = is i;
              occupants = os;
              round = moves i;
            })
            ∙ ap (λ (s : Table). record s {
              ways = ways_chosen s.ways s.round.good;
              round = record s.round { good = R; read = None };
            }) view

        -- what was chosen is left
        pub count_left_now : {s : Table} → seen_table next more cells es slots last room ≡ s → (n : ℕ)
            → n ≡ sparse_cells ps → n ≡ length (left_of s)
        count_left_now seen n told =
            let numbers = numbers-length os (left_in more.pages.uses)
            (left_lies placed_chosen.free os (some-vacant cells)) in
            let same = ap (λ (r : Ways). length (left_in r.pages.uses)) is
            ∙ ap length (left_kept (choosing ps) (reserving start left).0.uses
            (framed-choosing ps free.framed) whole kept) in
            let all = count_left (choosing ps) (framed-choosing ps free.framed) whole in
            let chosen = taken-choosing ps in
            let split = taken_split ps no_frames in
            let seen_length = ap (λ (r : Table). length (left_of r)) seen in
            omega (arith, numbers, same, all, chosen, split, told, seen_length)

        pub few_left_now : (n : ℕ) → n ≡ sparse_cells ps → n ≤ length (tabled_by cells es)
        few_left_now n told =
            let all = count_left (choosing ps) (framed-choosing ps free.framed) whole in
            let chosen = taken-choosing ps in
            let split = taken_split ps no_frames in
            omega (arith, all, chosen, split, told, counted)

        pub left_now : {s t : Table} → seen_table next more cells es slots last room ≡ s
            → seen_table round ways cells es slots last room ≡ t
            → left_of s ≡ numbers_at t.occupants (left_in (choosing t.ways.pages.uses))
        left_now seen view =
            ap left_of (sym seen) ∙ ap (λ (r : Ways). numbers_at os (left_in r.pages.uses)) is
            ∙ ap (numbers_at os)
            (left_kept (choosing ps) (reserving start left).0.uses (framed-choosing ps free.framed) whole kept)
            ∙ ap (λ (s : Table). numbers_at s.occupants (left_in (choosing s.ways.pages.uses))) view

-- what is left unhealed of what is seen
pub unhealed_seen : (round : RoundView) (cells : List (Option Tabled)) (es : List Entry) (ways : Ways)
    (slots : List (Option ℕ)) (last room : ℕ) {t : Table} → seen_table round ways cells es slots last room ≡ t
    → unhealed_of t.round.number t.tabled ≡ [] → unhealed_of round.number (tabled_by cells es) ≡ []
unhealed_seen round cells es ways slots last room view none =
    sym (numbers_by-named (target_by ways (occupants_of cells)) _ (λ k. refl) (tabled_by cells es))
    ∙ ap (λ (s : Table). unhealed_of s.round.number s.tabled) view ∙ none

-- ---- what a choice answers

pub none_refused : (ps : Pages) (cells : ℕ) → choice ps ≡ Ok cells → choose_refusal ps ≡ None
none_refused ps cells is = by (choose_refusal ps) refl (sparse_cells ps.uses) is
  where
    by : (refusal : Option Fault) → choose_refusal ps ≡ refusal → (n : ℕ) → chosen_or (choose_refusal ps) n ≡ Ok cells
        → choose_refusal ps ≡ None
    by None at n is = at
    by (Some fault) at n is =
        absurd (false≢true (ap is_ok (sym (ap (λ r. chosen_or r n) at) ∙ is)))
      where
        is_ok : Result ℕ Fault → Bool
        is_ok (Ok n) = true
        is_ok (Err fault) = false

pub chosen_cells : (ps : Pages) (cells : ℕ) → choice ps ≡ Ok cells → cells ≡ sparse_cells ps.uses
chosen_cells ps cells is =
    sym (ap ok_or_0 (sym (ap (λ r. chosen_or r (sparse_cells ps.uses)) (none_refused ps cells is)) ∙ is))
  where
    ok_or_0 : Result ℕ Fault → ℕ
    ok_or_0 (Ok n) = n
    ok_or_0 (Err fault) = 0

pub ways_reserved : (ways : Ways) (good : Colour) {chosen now : Pages} {before after items : List ℕ}
    → chosen ≡ after_choice ways.pages → choose_refusal ways.pages ≡ None → before ≡ ways.forwards
    → (now, after) ≡ reserving (chosen, before) (left_in chosen.uses) → items ≡ after
    → ways_of now items good false ≡ ways_chosen ways good
ways_reserved ways good {chosen} {now} {before} {after} {items} chose none same is back =
    let chose_all : chosen ≡ with_chosen ways.pages = chose ∙ ap (λ r. chosen_unless r ways.pages) none in
    ap (λ fs. ways_of now fs good false) back
    ∙ ap (λ (s : Pages × List ℕ). ways_by s good)
    (is ∙ ap (λ (ps : Pages). reserving (ps, before) (left_in ps.uses)) chose_all
    ∙ ap (λ fs. reserving (with_chosen ways.pages, fs) (left_in (choosing ways.pages.uses))) same)

-- ---- new addresses

all_set : (bs : List Bool) → ((c : ℕ) → c < length bs → get_or bs c false ≡ true) → count_clear bs ≡ 0
all_set [] each = refl
all_set (b ∷ bs) each =
    let own : b ≡ true = each 0 (omega arith) in
    simp own (all_set bs (λ c within. each (suc c) (omega (arith, within))))

emptied_by : (ps : List Use)
    → ((page : ℕ) → page < length ps → (use_at ps page).chosen ≡ true → taken_cells (use_at ps page) ≡ 0)
    → AreEmptied ps
emptied_by [] each = tt
emptied_by (p ∷ ps) each =
    (each 0 (omega arith), emptied_by ps (λ page within. each (suc page) (omega (arith, within))))

taken-append : (ps qs : List Use) → taken_of (ps ++ qs) ≡ taken_of ps + taken_of qs
taken-append [] qs = omega arith
taken-append (p ∷ ps) qs = let rest = taken-append ps qs in omega (arith, rest)

taken-emptied : (next : ℕ) (fs : List ℕ) → taken_of (empty_pages next fs) ≡ 0
unfolding all_free
taken-emptied next [] = refl
taken-emptied next (f ∷ fs) = let rest = taken-emptied (suc next) fs in omega (arith, rest)

whole_page : (ps : List Use) (page : ℕ) → AreWhole ps → page < length ps → length (use_at ps page).free ≡ 64
whole_page [] page whole within = absurd (omega arith)
whole_page (p ∷ ps) zero whole within = whole.0
whole_page (p ∷ ps) (suc page) whole within = whole_page ps page whole.1 (omega arith)

module _ {bs : List Bool} {fs : List ℕ} {ps : List Use} (are : AreFree bs fs ps) (none : NoneLeaves bs ps)
    (next : ℕ) where
  abbrev us : List Use
  us = renumbered_uses next ps

  empty_page : (page : ℕ) → page < length ps → (use_at ps page).chosen ≡ true → taken_cells (use_at ps page) ≡ 0
  empty_page page within chosen =
      let size = whole_page ps page are.whole within in
      let small = frame_within ps are.framed page within in
      all_set (use_at ps page).free
      (λ c below.
      let inside : c < 64 = omega (arith, below, size) in
      let frame : ℕ = (use_at ps page).frame in
      let whose : (64 * frame + c) / 64 ≡ frame = omega (arith, inside) in
      let which : (64 * frame + c) % 64 ≡ c = omega (arith, inside) in
      let here : page_at ps (64 * frame + c) ≡ page =
      ap (place_of ps) whose ∙ place-frame ps are.framed page within in
      let is_chosen : is_chosen_place ps (64 * frame + c) ≡ true = ap (λ q. (use_at ps q).chosen) here ∙ chosen in
      sym (ap (λ q. is_free_at ps q ((64 * frame + c) % 64)) here ∙ ap (is_free_at ps page) which)
      ∙ are.left (64 * frame + c) (omega (arith, small, inside, are.sized)) is_chosen
      ∙ none (64 * frame + c) is_chosen)

  emptied : AreEmptied ps
  emptied = emptied_by ps empty_page

  free_still : (place : ℕ) → place < length bs → is_free_place us place ≡ is_free_place ps place
  free_still place within =
      ap (λ free. get_or free (place % 64) false)
      (free-renumbered ps next (place / 64) are.framed (omega (arith, within, are.sized)) are.whole emptied)

  pub open_now : (place : ℕ) → is_chosen_place us place ≡ false
  open_now place = none_there us (chosen-renumbered next ps) place

  pub free_renumbered : AreFree bs fs us
  free_renumbered = record {
    whole = whole-renumbered next ps are.whole;
    framed = framed-renumbered next ps are.framed;
    sized = are.sized ∙ ap (λ n. 64 * n) (sym (length-renumbered next ps));
    forwarded = are.forwarded;
    free = λ place open_page is_free. vacant place is_free;
    taken = λ place within open_page taken. inl (lies place within (sym (free_still place within) ∙ taken));
    left = λ place within chosen. absurd (true≢false (sym chosen ∙ open_now place));
    target = λ place leaves. absurd (true≢false (sym leaves.0 ∙ open_now place));
    apart = λ one other leaves. absurd (true≢false (sym leaves.0 ∙ open_now one));
  }
    where
      vacant : (place : ℕ) → is_free_place us place ≡ true → is_vacant bs place ≡ true
      vacant place is_free =
          elim (cases_Bool (is_chosen_place ps place)) [
            | inl chosen ↦ none place chosen
            | inr open_page ↦
                elim (cases_Bool (nat_lt place (length bs))) [
                  | inl there ↦
                      are.free place open_page
                      (sym (free_still place (ltb-true place (length bs) there)) ∙ is_free)
                  | inr past ↦ get_or_past bs place true (ltb-false place (length bs) past)
                ]
          ]

      lies : (place : ℕ) → place < length bs → is_free_place ps place ≡ false → is_vacant bs place ≡ false
      lies place within taken =
          elim (cases_Bool (is_chosen_place ps place)) [
            | inl chosen ↦
                absurd (true≢false (sym (none place chosen) ∙ sym (are.left place within chosen) ∙ taken))
            | inr open_page ↦
                elim (are.taken place within open_page taken) [
                  | inl own ↦ own
                  | inr kept ↦ absurd (true≢false (sym (none kept.0 kept.1.0) ∙ kept.1.1))
                ]
          ]

  pub taken_renumbered : taken_of (opened us) ≡ taken_of (opened ps)
  taken_renumbered =
      let same = taken-append (opened ps) (empty_pages next (chosen_frames ps)) in
      let nothing = taken-emptied next (chosen_frames ps) in
      ap taken_of (opened_all us (chosen-renumbered next ps)) ∙ omega (arith, same, nothing)

module _ {round : RoundView} {cells : List (Option Tabled)} {es : List Entry} {ways : Ways} {slots : List (Option ℕ)}
    {last room count index_room marked : ℕ}
    (sound : IsSoundTable round cells es ways last room count index_room marked
    × IsSoundNaming round ways cells es slots) (is_tuned : ways.tuned ≡ true)
    (healed : unhealed_of round.number (tabled_by cells es) ≡ []) {more : Ways} (is : more ≡ ways_renumbered ways)
    (addresses : more.pages.next ≤ 2 ^ 32) where
  abbrev anew : List Use
  anew = renumbered_uses ways.pages.next ways.pages.uses

  none_left : NoneLeaves (map is_none cells) ways.pages.uses
  none_left = sound.0.placed.settled is_tuned

  all_opened : (q : ℕ) → is_chosen_place more.pages.uses q ≡ false
  all_opened q =
      ap (λ (s : Ways). is_chosen_place s.pages.uses q) is ∙ open_now sound.0.placed.free none_left ways.pages.next q

  abbrev lying : List (Option ℕ)
  lying = occupants_of cells

  abbrev good_there : Bool → Option ℕ → Bool
  good_there b v = leads_by round.good ways lying true v

  held_good : EachHeld round.number good_there (tabled_by cells es)
  held_good = all_healed round.number (leads_by round.good ways lying) (tabled_by cells es) sound.1.led healed

  still_there : (b : Bool) (v : Option ℕ) → good_there b v ≡ true → leads_by round.good more lying b v ≡ true
  still_there b v leads = leads_opened round.good ways lying is_tuned sound.1.apart more all_opened v leads b

  named_there : (b : Bool) (v : Option ℕ) → good_there b v ≡ true → target_by more lying v ≡ target_by ways lying v
  named_there b v leads = target_still round.good ways lying is_tuned sound.1.apart more v leads

  placed_renumbered : IsPlaced cells es more last
  placed_renumbered =
      subst (λ (s : Ways). IsPlaced cells es s last) (sym is) (record {
        rises = sound.0.placed.rises;
        given = sound.0.placed.given;
        free = free_renumbered sound.0.placed.free none_left ways.pages.next;
        settled = λ tuned_now place chosen.
            absurd (true≢false (sym chosen ∙ open_now sound.0.placed.free none_left ways.pages.next place));
        taken = taken_renumbered sound.0.placed.free none_left ways.pages.next ∙ sound.0.placed.taken;
        rising = between-renumbered_from 1 ways.pages.next ways.pages.uses sound.0.placed.rising;
        addressed = subst (λ (s : Ways). s.pages.next ≤ 2 ^ 32) is addresses;
        small = sound.0.placed.small;
        few = sound.0.placed.few;
      })

  pub sound_renumbered : IsSoundTable round cells es more last room count index_room marked
      × IsSoundNaming round more cells es slots
  sound_renumbered = (
    record {
      placed = placed_renumbered;
      cells_fit = sound.0.cells_fit;
      open_fit = let pages = ap (λ (s : Ways). length (opened s.pages.uses)) is in
          let all = ap length (opened_all anew (chosen-renumbered ways.pages.next ways.pages.uses)) in
          let size = length-renumbered ways.pages.next ways.pages.uses in
          omega (arith, pages, all, size, sound.0.twice);
      twice = ap (λ (s : Ways). length s.pages.uses) is ∙ length-renumbered ways.pages.next ways.pages.uses
          ∙ sound.0.twice;
      packed = subst (λ (s : Ways). Packed ((room + 63) / 64) (opened s.pages.uses)) (sym is)
          (subst (Packed ((room + 63) / 64)) (sym (opened_all anew (chosen-renumbered ways.pages.next ways.pages.uses)))
          (packed-renumbered ((room + 63) / 64) ways.pages.next ways.pages.uses sound.0.packed));
      counted = sound.0.counted;
      within = sound.0.within;
      index_fits = sound.0.index_fits;
      marks_counted = sound.0.marks_counted;
    },
    record {
      listed = sound.1.listed;
      rooted = each_to round.number good_there (leads_by round.good more lying) still_there true slots sound.1.rooted;
      begun = sound.1.begun;
      apart = λ place chosen. absurd (true≢false (sym chosen ∙ all_opened place));
      led = held_to round.number good_there (leads_by round.good more lying) still_there (tabled_by cells es) held_good;
      read = sound.1.read;
    },
  )

  pub seen_renumbered : {t : Table} → seen_table round ways cells es slots last room ≡ t
      → seen_table round more cells es slots last room ≡ table_renumbered t
  seen_renumbered view =
      (λ i. record {
        tabled = named_same round.number good_there (target_by more lying) (target_by ways lying) named_there
            (tabled_by cells es) held_good i;
        room = room;
        last = last;
        slots = map_same round.number good_there (target_by more lying) (target_by ways lying) named_there true slots
            sound.1.rooted i;
        ways = is i;
        occupants = lying;
        round = round;
      })
      ∙ ap table_renumbered view
