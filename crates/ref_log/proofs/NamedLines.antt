-- The rows that lines of words spell, with one line more, and apart again.
use Rattle.std.proofs.Common.{◌≡◌, ℕ, Bool, List, [], ◌∷◌, ◌++◌, refl, sym, ap, ◌∙◌, subst, append_assoc, append-nil}
use Rattle.std.proofs.Common.{Option, Some, None}
use Rattle.ref_base.specs.Collectors.{first_state}
use Rattle.ref_base.specs.Runs.{LeadsThrough}
use Rattle.ref_base.specs.declared.config.Config.{Config}
use Rattle.ref_base.specs.declared.row.Row.{Row}
use Rattle.ref_judge.specs.ProfiledRows.{IsLegalAs, IsRowAs}
use Rattle.ref_judge.specs.declared.profile.Profile.{Profile}
use Rattle.ref_log.specs.NamedRows.{AreRowsBehind, NamesBehind, SpellsPart, free_name, names_behind}
use Rattle.ref_log.specs.Names.{Given, number_named, name_given, with_name}

-- ---- one line more

module _ (profile : Profile) (config : Config) where
  pub rows_more : (front : List Row) (names : Option (List Given)) (lines : List (List (List ℕ))) (rows : List Row)
      (mid : Option (List Given)) (words : List (List ℕ)) (part : List Row) (last : Option (List Given))
      → AreRowsBehind profile config front names lines rows mid
      → SpellsPart profile config (front ++ rows) mid words part last
      → AreRowsBehind profile config front names (lines ++ words ∷ []) (rows ++ part) last
  rows_more front names [] rows mid words part last are spells = (
    part,
    [],
    last,
    (ap (λ (rs : List Row). rs ++ part) are.0 ∙ sym (append-nil part)),
    subst (λ (ns : Option (List Given)). SpellsPart profile config front ns words part last) are.1
        (subst (λ (rs : List Row). SpellsPart profile config rs mid words part last)
        (ap (λ (rs : List Row). front ++ rs) are.0 ∙ append-nil front) spells),
    (refl, refl),
  )
  rows_more front names (line ∷ lines) rows mid words part last are spells =
      let (first, rest, later, parts, here, behind) = are in (
        first,
        rest ++ part,
        later,
        (ap (λ (rs : List Row). rs ++ part) parts ∙ append_assoc first rest part),
        here,
        rows_more (front ++ first) later lines rest mid words part last behind
            (subst (λ (rs : List Row). SpellsPart profile config rs mid words part last)
            (ap (λ (rs : List Row). front ++ rs) parts ∙ sym (append_assoc front first rest)) spells),
      )

  -- the rows of one line more
  pub record AreOneMore (front : List Row) (names : Option (List Given)) (lines : List (List (List ℕ)))
      (words : List (List ℕ)) (rows : List Row) (last : Option (List Given))
      : Type 0
    where
      pub before : List Row
      pub mid : Option (List Given)
      pub part : List Row
      pub parts : rows ≡ before ++ part
      pub are_before : AreRowsBehind profile config front names lines before mid
      pub spells : SpellsPart profile config (front ++ before) mid words part last

  pub rows_apart : (front : List Row) (names : Option (List Given)) (lines : List (List (List ℕ)))
      (words : List (List ℕ)) (rows : List Row) (last : Option (List Given))
      → AreRowsBehind profile config front names (lines ++ words ∷ []) rows last
      → AreOneMore front names lines words rows last
  rows_apart front names [] words rows last are =
      let (part, rest, later, parts, here, behind) = are in
      record {
        before = [];
        mid = names;
        part = part;
        parts = parts ∙ ap (λ (rs : List Row). part ++ rs) behind.0 ∙ append-nil part;
        are_before = (refl, refl);
        spells = subst (λ (ns : Option (List Given)). SpellsPart profile config (front ++ []) names words part ns)
            (sym behind.1)
            (subst (λ (rs : List Row). SpellsPart profile config rs names words part later) (sym (append-nil front))
            here);
      }
  rows_apart front names (line ∷ lines) words rows last are =
      let (first, rest, later, parts, here, behind) = are in
      let more = rows_apart (front ++ first) later lines words rest last behind in
      record {
        before = first ++ more.before;
        mid = more.mid;
        part = more.part;
        parts = parts ∙ ap (λ (rs : List Row). first ++ rs) more.parts ∙ sym (append_assoc first more.before more.part);
        are_before = (first, more.before, later, refl, here, more.are_before);
        spells = subst (λ (rs : List Row). SpellsPart profile config rs more.mid words more.part last)
            (append_assoc front first more.before) more.spells;
      }

-- ---- names

-- what is there decides of a name, and the next number
free_same : (there others : ℕ → Bool) → ((n : ℕ) → there n ≡ others n) → (next : ℕ) (names : List Given)
    (name : Option (List ℕ)) → free_name there next names name ≡ free_name others next names name
free_same there others same next names None = refl
free_same there others same next names (Some name) = rw (same (number_named names name)) refl

behind_same : (there others : ℕ → Bool) → ((n : ℕ) → there n ≡ others n) → (next : ℕ) (names : Option (List Given))
    (words : List (List ℕ)) → names_behind there next names words ≡ names_behind others next names words
behind_same there others same next None words = refl
behind_same there others same next (Some names) words =
    ap (λ (name : Option (List ℕ)). Some (with_name name next names))
    (free_same there others same next names (name_given words))

-- behind legal rows names are what one knows of the objects makes them
pub names_alone : (profile : Profile) (config : Config) (rows : List Row) (names later other : Option (List Given))
    (words : List (List ℕ)) → IsLegalAs profile config rows → NamesBehind profile config rows names words later
    → NamesBehind profile config rows names words other → other ≡ later
names_alone profile config rows names later other words legal one also =
    let (s, run) = legal in
    let next : also.next ≡ one.next = sym (also.objects.number s run) ∙ one.objects.number s run in
    also.names_are
    ∙ behind_same also.there one.there (λ n. also.objects.objects s run n ∙ sym (one.objects.objects s run n)) also.next
    names words
    ∙ ap (λ (n : ℕ). names_behind one.there n names words) next
    ∙ sym one.names_are

-- ---- legal rows

-- a front of a legal trace is legal
leads_front : {S E : Type 0} (leads : S → E → S → Type 0) (x z : S) (front back : List E)
    → LeadsThrough leads x (front ++ back) z → (y : S) × LeadsThrough leads x front y
leads_front leads x z [] back run = (x, refl)
leads_front leads x z (e ∷ front) back run =
    let (y, before) = leads_front leads run.0 z front back run.2 in (y, (run.0, run.1, before))

pub front_legal : (profile : Profile) (config : Config) (front back : List Row)
    → IsLegalAs profile config (front ++ back) → IsLegalAs profile config front
front_legal profile config front back legal =
    leads_front (IsRowAs profile) (first_state config) legal.0 front back legal.1
