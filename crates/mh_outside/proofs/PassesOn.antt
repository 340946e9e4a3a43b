-- Lemmas on bytes that are passed on to a writer, or read from a file, up to a limit.
use Rattle.std.proofs.Common.{◌<◌, ◌≤◌, ◌-◌, ℕ, List, ◌++◌, length, take, drop, Option, None, Some, sym, ◌∙◌, arith, length-append}
use Rattle.std.proofs.lemmas.List.{take-append-drop, length-take-le}
use Rattle.std.specs.Io.KnownBytes.{Appends, Consumes, Keeps}
use Rattle.mh_outside.specs.Sink.{AppendsPrefix}
use Rattle.mh_outside.proofs.Consumes.{Consumes-append}

Appends-kept : (a b c : Option (List ℕ)) (xs : List ℕ) → Appends a b xs → Keeps b c → Appends a c xs
Appends-kept None b c xs p q = tt
Appends-kept (Some a) None c xs p q = absurd p
Appends-kept (Some a) (Some b) None xs p q = absurd q
Appends-kept (Some a) (Some b) (Some c) xs p q = q ∙ p

-- The bytes written before a flush are a prefix of the piece.
pub prefix_written : (a b c : Option (List ℕ)) (piece : List ℕ) (n : ℕ) → Appends a b (take n piece) → Keeps b c → AppendsPrefix a c piece
prefix_written a b c piece n p q = (take n piece, Appends-kept a b c (take n piece) p q, (drop n piece, sym (take-append-drop n piece)))

-- If one more block exceeds the limit, more bytes than the limit were read.
pub passes_limit : (a b c : Option (List ℕ)) (got block : List ℕ) (n limit : ℕ) → Consumes a b got → Consumes b c (take n block) → n ≤ length block → limit - length got < n → length got ≤ limit
    → (all : List ℕ) × Consumes a c all × (limit < length all)
passes_limit a b c got block n limit p q short more le = (got ++ take n block, Consumes-append a b c got (take n block) p q, omega (arith, length-append got (take n block), length-take-le n block short))
