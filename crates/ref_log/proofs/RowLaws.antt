-- Which rows the words of a line spell, by how they are parted at their first colon.
use Rattle.ref_script.proofs.Common.{◌≡◌, ℕ, ◌++◌, Bool, true, false, List, [], ◌∷◌, Option, Some, None, refl, sym, ap}
use Rattle.ref_script.proofs.Common.{◌∙◌, arith, cases_Bool, inl, inr, bytes_eq, bytes_eq-Decides, subst, step_fault}
use Rattle.ref_script.proofs.Common.{SpellsScriptStep, LineFault}
use Rattle.ref_script.proofs.OneReading.{one_step}
use Rattle.ref_script.proofs.Spelt.{spelt_without_fault}
use Rattle.ref_script.specs.ReplyKinds.{IsToldSo, NoneIsToldSo, reply_kind_of}
use Rattle.ref_script.specs.declared.script_step.ScriptRow.{ScriptRow}
use Rattle.ref_script.specs.declared.script_step.ScriptStep.{ScriptStep}
use Rattle.ref_log.specs.JudgedRows.{IsRowRead}
use Rattle.ref_log.specs.declared.fault.LogFault.{LogFault}
use Rattle.std.proofs.Common.{IfErr, MatchResult, Result, Ok, Err}
use Rattle.ref_log.specs.LogRows.{Parts, SpellsNoRow, SpellsRow, colon, no_colon, no_padding, onto_front, parted}
use Rattle.ref_log.specs.LogRows.{parts_fault, row_fault, step_or_reply_fault, unnumbered}

-- the words are those of the parts with the first colon between them
record AreOfParts (words : List (List ℕ)) (parts : Parts) : Type 0 where
  words_are : words ≡ parts.front ++ colon ∷ parts.back
  first : no_colon parts.front ≡ true

of_more : (word : List ℕ) (words : List (List ℕ)) (known : Option Parts) (parts : Parts)
    → bytes_eq word colon ≡ false → onto_front word known ≡ Some parts
    → ((p : Parts) → known ≡ Some p → AreOfParts words p) → AreOfParts (word ∷ words) parts
of_more word words None parts isnt h rest = absurd cc
of_more word words (Some p) parts isnt h rest =
    let of = rest p refl in
    let same : parts ≡ record p { front = word ∷ p.front } = cc in
    rw same (record {
      words_are = ap (λ (ws : List (List ℕ)). word ∷ ws) of.words_are;
      first = simp isnt (of.first);
    })

of_parts : (words : List (List ℕ)) (parts : Parts) → parted words ≡ Some parts → AreOfParts words parts
of_parts [] parts h = absurd cc
of_parts (word ∷ words) parts h =
    elim (cases_Bool (bytes_eq word colon)) [
      | inl is ↦
          let here : parted (word ∷ words) ≡ Some (record { front = []; back = words }) = simp is refl in
          let same : parts ≡ record { front = []; back = words } = cc in
          let named : word ≡ colon = (bytes_eq-Decides word colon).0 is in
          rw same (record { words_are = ap (λ (w : List ℕ). w ∷ words) named; first = refl })
      | inr isnt ↦
          let on : parted (word ∷ words) ≡ onto_front word (parted words) = simp isnt refl in
          of_more word words (parted words) parts isnt (sym on ∙ h) (of_parts words)
    ]

pub parted_whole : (front back : List (List ℕ)) → no_colon front ≡ true
    → parted (front ++ colon ∷ back) ≡ Some (record { front = front; back = back })
parted_whole [] back none = refl
parted_whole (word ∷ front) back none = grind (arith, parted_whole front back)

module _ (words behind : List (List ℕ)) (behind_is : behind ≡ unnumbered words) where
  -- a row's own parts are those that its words are parted into
  same_parts : (row : ScriptRow) (spells : SpellsRow words row)
      → parted behind ≡ Some (record { front = spells.front; back = spells.back })
  same_parts row spells =
      ap parted (behind_is ∙ spells.parts) ∙ parted_whole spells.front spells.back spells.first

  -- without a colon there is no row
  pub none_unparted : parted behind ≡ None → SpellsNoRow words
  none_unparted none row spells = let own = same_parts row spells in absurd cc

  module _ (parts : Parts) (parted_so : parted behind ≡ Some parts) where
    own_parts : (row : ScriptRow) (spells : SpellsRow words row)
        → (spells.front ≡ parts.front) × (spells.back ≡ parts.back)
    own_parts row spells =
        let own = same_parts row spells in
        let same : record { front = spells.front; back = spells.back } ≡ parts = cc in
        (ap (λ (p : Parts). p.front) same, ap (λ (p : Parts). p.back) same)

    pub row_there : (row : ScriptRow) → SpellsScriptStep parts.front row.step → no_padding parts.front ≡ true
        → IsToldSo (reply_kind_of row.step) parts.back row.reply → SpellsRow words row
    row_there row step exact reply =
        let of = of_parts behind parts parted_so in
        record {
          front = parts.front;
          back = parts.back;
          parts = sym behind_is ∙ of.words_are;
          first = of.first;
          step = step;
          exact = exact;
          reply = reply;
        }

    -- a fault of the step's words lets no step be spelled
    pub none_faulty : (fault : LineFault) → step_fault parts.front ≡ Some fault → SpellsNoRow words
    none_faulty fault has row spells =
        let no_fault = spelt_without_fault spells.front row.step spells.step in
        let same = ap step_fault (own_parts row spells).0 in
        absurd cc

    pub none_padded : no_padding parts.front ≡ false → SpellsNoRow words
    none_padded padded row spells =
        let exact = spells.exact in
        let same = ap no_padding (own_parts row spells).0 in
        absurd cc

    -- the fault of a row whose step is spelled: it has a leading zero, or else no reply
    pub fault_behind_step : (step : ScriptStep) → SpellsScriptStep parts.front step → (exact : Bool)
        → no_padding parts.front ≡ exact → step_or_reply_fault None exact ≡ row_fault words
    fault_behind_step step spelt exact exact_is =
        let none = spelt_without_fault parts.front step spelt in
        sym
        (ap (λ ws. parts_fault (parted ws)) (sym behind_is) ∙ ap parts_fault parted_so
        ∙ ap (λ fault. step_or_reply_fault fault (no_padding parts.front)) none
        ∙ ap (λ known. step_or_reply_fault None known) exact_is)

    -- the words of the step spell one, and no reply to it stands behind them
    pub none_unanswered : (step : ScriptStep) → SpellsScriptStep parts.front step
        → NoneIsToldSo (reply_kind_of step) parts.back → SpellsNoRow words
    none_unanswered step spelt none row spells =
        let own = own_parts row spells in
        let other : SpellsScriptStep parts.front row.step =
        subst (λ (ws : List (List ℕ)). SpellsScriptStep ws row.step) own.0 spells.step in
        let same : row.step ≡ step = one_step row.step step parts.front other spelt in
        let told : IsToldSo (reply_kind_of row.step) parts.back row.reply =
        subst (λ (ws : List (List ℕ)). IsToldSo (reply_kind_of row.step) ws row.reply) own.1 spells.reply in
        none row.reply (subst (λ (s : ScriptStep). IsToldSo (reply_kind_of s) parts.back row.reply) same told)

-- what is read of words as a row is the row that they spell, or why they spell none
pub is_spelt : (words : List (List ℕ)) (read : Result ScriptRow LogFault)
    → MatchResult read (SpellsRow words) (λ _. SpellsNoRow words) → IfErr read (λ fault. fault ≡ row_fault words)
    → IsRowRead words read
is_spelt words (Ok row) spelt fault = spelt
is_spelt words (Err fault) none is = (none, is)
