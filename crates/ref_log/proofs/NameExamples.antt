-- Worked rows with names.
use Rattle.ref_script.proofs.Common.{◌≡◌, false, true, List, [], ◌∷◌, Some, None, codes, refl, words_of}
use Rattle.std.specs.Fmt.{digits}
use Rattle.ref_log.specs.Names.{Given, is_name, name_given, numbered_row}

-- an address that was given to object 1
abbrev one : List Given
one = record { name = codes "0x7f10"; number = 1 } ∷ []

-- a name in a reply becomes a number
a_name : numbered_row one (words_of (codes "m0 get s3 s1 : object 0x7f10")) ≡ words_of (codes "m0 get s3 s1 : object 1")
unfolding digits
a_name = refl

-- names stand up to a queue alone: what stands behind it are numbers already
up_to_a_queue : numbered_row (record { name = codes "b"; number = 2 } ∷ one)
    (words_of (codes "w0 hands 32 : notices b 0x7f10 q0 cycle 1 w0"))
    ≡ words_of (codes "w0 hands 32 : notices 2 1 q0 cycle 1 w0")
unfolding digits
up_to_a_queue = refl

-- a name that was given to none means no object
no_object : numbered_row [] (words_of (codes "m0 get s3 s1 : object 0x7f10"))
    ≡ words_of (codes "m0 get s3 s1 : object 0")
unfolding digits
no_object = refl

-- a reply of another kind stays, and so do the words of the step
others : (numbered_row one (words_of (codes "w0 sweep 0x7f10 : swept 0x7f10"))
    ≡ words_of (codes "w0 sweep 0x7f10 : swept 0x7f10"))
    × (numbered_row one (words_of (codes "m0 drop object 0x7f10")) ≡ words_of (codes "m0 drop object 0x7f10"))
others = (refl, refl)

-- a step that makes an object gives it a name, and no other does
given : (name_given (words_of (codes "12 m0 new s0 0 : object 0x7f10")) ≡ Some (codes "0x7f10"))
    × (name_given (words_of (codes "m0 get s0 s1 : object 0x7f10")) ≡ None)
    × (name_given (words_of (codes "m0 new s0 0 : refused 3 no-memory")) ≡ None)
given = (refl, refl, refl)

-- a queue's word isn't a name, nor is one of 21 bytes
no_names : (is_name (codes "q0") ≡ false) × (is_name (codes "a23456789012345678901") ≡ false)
    × (is_name (codes "a2345678901234567890") ≡ true) × (is_name (codes "q") ≡ true)
no_names = (refl, refl, refl, refl)
