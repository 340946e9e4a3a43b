-- The definition of what cannot be lacking.

-- A value of the type cannot be lacking. From this follows each equation, and each falsehood, that follows from a
-- value.
abbrev pub NotLacking : Type 0 → Type 0
NotLacking A = (A → ⊥) → ⊥
