-- Lemmas on the states of an overlay, as a list: a prefix of the base, followed by own states.
use Rattle.std.proofs.Common.{◌≡◌, ℕ, ◌+◌, ◌-◌, ◌<◌, ◌≤◌, List, [], ◌∷◌, ◌++◌, length, take, get_or, refl, sym, ap, ◌∙◌, arith, length-append, append-nil}
use Rattle.std.proofs.lemmas.List.{get_or-take, get_or_default, length-take-le, take-append-le, take-take, take_all}
use Rattle.std.proofs.Math.Seq.{take-append-add, get_or-append_right}
use Rattle.std.proofs.Math.ListN.{get_or-append}
use Rattle.mh_tables_core.specs.Run.{top_of}

-- The overlay that keeps the whole base and has no own states is the base.
pub overlay_of_whole_base : (base above : List ℕ) (kept : ℕ) → kept ≡ length base → above ≡ [] → take kept base ++ above ≡ base
overlay_of_whole_base base above kept e none = rw (e, none) (append-nil (take (length base) base) ∙ take_all (length base) base (omega arith))

module _ (base above : List ℕ) (kept : ℕ) (within : kept ≤ length base) where
  abbrev low : List ℕ
  low = take kept base

  low_length : length low ≡ kept
  low_length = length-take-le kept base within

  pub overlay_length : length (low ++ above) ≡ kept + length above
  overlay_length = length-append low above ∙ ap (λ (n : ℕ). n + length above) low_length

  -- If only own states are dropped, a prefix of the overlay is left.
  pub fewer_own : (n : ℕ) → kept ≤ n → low ++ take (n - kept) above ≡ take n (low ++ above)
  fewer_own n le =
      let e : length low + (n - kept) ≡ n = let l = low_length in omega arith in
      sym (take-append-add low above (n - kept)) ∙ ap (λ (k : ℕ). take k (low ++ above)) e

  -- The top state is the last own state or, if there is no own state, the last kept state of the base.
  pub top_own : (s : ℕ) → 0 < length above → s ≡ get_or above (length above - 1) s → s ≡ top_of (low ++ above)
  top_own s some is =
      let l = overlay_length in
      let k = low_length in
      let at : length (low ++ above) - 1 - length low ≡ length above - 1 = omega arith in
      is ∙ get_or_default above (length above - 1) s 0 (omega arith) ∙ ap (λ (i : ℕ). get_or above i 0) (sym at) ∙ sym (get_or-append_right low above (length (low ++ above) - 1) 0 (omega arith))

  pub top_shared : (s : ℕ) → above ≡ [] → 0 < kept → s ≡ get_or base (kept - 1) s → s ≡ top_of (low ++ above)
  top_shared s none some is =
      let e : low ++ above ≡ low = ap (λ (x : List ℕ). low ++ x) none ∙ append-nil low in
      let k = low_length in
      let last : length low - 1 ≡ kept - 1 = omega arith in
      rw (e, last) (is ∙ get_or_default base (kept - 1) s 0 (omega arith) ∙ sym (get_or-take kept base (kept - 1) 0 (omega arith)))

-- If all own states and some of the base are dropped, a prefix of the overlay is left.
pub fewer_shared : (base above : List ℕ) (kept n : ℕ) → kept ≤ length base → n ≤ kept → take n base ++ [] ≡ take n (take kept base ++ above)
fewer_shared base above kept n within le =
    let low : n ≤ length (take kept base) = let l = length-take-le kept base within in omega arith in
    append-nil (take n base) ∙ sym (take-append-le n (take kept base) above low ∙ take-take n kept base le)
