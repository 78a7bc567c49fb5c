-- The fault that a refusal tells by its number and its name.
use Rattle.ref_script.proofs.Common.{◌≡◌, ℕ, ◌^◌, true, List, [], ◌∷◌, Some, refl, bytes_eq}
use Rattle.ref_base.specs.Faults.{name_of}
use Rattle.ref_base.specs.declared.fault.Fault.{Fault}
use Rattle.ref_script.specs.ReplyReading.{exact_below, fault_numbered, refusal_among}

-- the fault is that of the number, and has the name
pub refusal_told : (fs : List Fault) (words rest left : List (List ℕ)) (number name : List ℕ) (n : ℕ) (f : Fault)
    → words ≡ number ∷ rest → rest ≡ name ∷ left → left ≡ [] → exact_below (2 ^ 32) number ≡ Some n
    → fault_numbered fs n ≡ Some f → bytes_eq name (name_of f) ≡ true → refusal_among fs words ≡ Some f
refusal_told fs words rest left number name n f cut more none is known named =
    rw (cut, more, none, is, known, named) refl
