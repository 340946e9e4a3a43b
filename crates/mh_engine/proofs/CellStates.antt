-- Lemmas on the states of the cells of a stack, read from the top down.
use Rattle.std.proofs.Common.{◌≡◌, ℕ, List, [], ◌∷◌, ◌++◌, reverse, refl, sym, ap, ◌∙◌, append_assoc, append-nil}
use Rattle.std.proofs.lemmas.List.{reverse-append}

-- The states `read` were read from the top of the stack `whole` down, and the states `below` are not read yet.
abbrev pub AreReadStates : (whole below read : List ℕ) → Type 0
AreReadStates whole below read = below ++ reverse read ≡ whole

pub read_none : (whole read : List ℕ) → read ≡ [] → AreReadStates whole whole read
read_none whole read e = rw e (append-nil whole)

-- If the next cell has the state s, then s is read as the last one so far.
pub read_more : (whole below rest read new : List ℕ) (s : ℕ) → AreReadStates whole below read → below ≡ rest ++ s ∷ [] → new ≡ read ++ s ∷ [] → AreReadStates whole rest new
read_more whole below rest read new s h e n =
    ap (λ (l : List ℕ). rest ++ reverse l) n
    ∙ ap (λ (l : List ℕ). rest ++ l) (reverse-append read (s ∷ []))
    ∙ sym (append_assoc rest (s ∷ []) (reverse read))
    ∙ ap (λ (l : List ℕ). l ++ reverse read) (sym e)
    ∙ h

-- If only the start state s was not read yet, reading s completes the list of all states.
pub read_all : (whole below read new : List ℕ) (s : ℕ) → AreReadStates whole below read → below ≡ s ∷ [] → new ≡ read ++ s ∷ [] → reverse new ≡ whole
read_all whole below read new s h e n = read_more whole below [] read new s h e n
