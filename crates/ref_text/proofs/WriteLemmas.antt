-- A text that goes out in several writes.
use Rattle.ref_text.proofs.Common.{arith, ◌≡◌, ℕ, List, [], ◌++◌, length, take, drop, Option, Some, None, ap, ◌∙◌}
use Rattle.ref_text.proofs.Common.{append_assoc, Keeps, append-nil, take-append-drop, take-append_seam}
use Rattle.std.specs.Io.KnownBytes.{Appends}
use Rattle.ref_text.specs.Streams.{AppendsPrefix}

pub appends_then : (a b c : Option (List ℕ)) (x y : List ℕ) → Appends a b x → Appends b c y → Appends a c (x ++ y)
appends_then None b c x y h k = tt
appends_then (Some xs) None c x y h k = absurd h
appends_then (Some xs) (Some ys) None x y h k = absurd k
appends_then (Some xs) (Some ys) (Some zs) x y h k = k ∙ ap (λ (t : List ℕ). t ++ y) h ∙ append_assoc xs x y

pub appends_kept : (a b c : Option (List ℕ)) (x : List ℕ) → Appends a b x → Keeps b c → Appends a c x
appends_kept None b c x h k = tt
appends_kept (Some xs) None c x h k = absurd h
appends_kept (Some xs) (Some ys) None x h k = absurd k
appends_kept (Some xs) (Some ys) (Some zs) x h k = k ∙ h

-- what has gone out of the text, and what is left of it
pub record HasWritten (old new : Option (List ℕ)) (text rest : List ℕ) : Type 0 where
  pub gone : List ℕ
  pub parts : text ≡ gone ++ rest
  pub appends : Appends old new gone

pub written_more : (old mid new : Option (List ℕ)) (text rest behind : List ℕ) (n : ℕ)
    → HasWritten old mid text rest → Appends mid new (take n rest) → behind ≡ drop n rest
    → HasWritten old new text behind
written_more old mid new text rest behind n h k behind_is = grind (arith, take-append-drop, append_assoc, appends_then)

pub written_prefix : (old mid new : Option (List ℕ)) (text rest : List ℕ) → HasWritten old mid text rest
    → Keeps mid new → AppendsPrefix old new text
written_prefix old mid new text rest h k =
    (length h.gone, rw (h.parts, take-append_seam) (appends_kept old mid new h.gone h.appends k))

pub written_then : (old mid new : Option (List ℕ)) (text rest : List ℕ) → HasWritten old mid text rest
    → Appends mid new [] → AppendsPrefix old new text
written_then old mid new text rest h k =
    let all : Appends old new (h.gone ++ []) = appends_then old mid new h.gone [] h.appends k in
    (length h.gone, rw (h.parts, take-append_seam) (rw append-nil at all))
