-- Proves that a spelled module is not too deep: the depth of an actual is at most the depth that is counted while the
-- actual is read.
use Rattle.std.proofs.Common.{◌≤◌, ℕ, max, List, [], ◌∷◌, ◌++◌}
use Rattle.std.specs.List.{All, AllByRecursion}
use Rattle.std.proofs.Math.Nat.{le-max_left, le-max_right, le_trans}
use Rattle.std.proofs.lemmas.List.Elements.{All-from_recursion}
use Rattle.mh_grammar.proofs.Lists.{recursion-push}
use Rattle.mh_rules.specs.declared.modules.Ref.TheVariants.{Plain}
use Rattle.mh_rules.specs.declared.modules.Actual.{Actual}
use Rattle.mh_rules.specs.declared.modules.Alternative.{Alternative}
use Rattle.mh_rules.specs.declared.modules.Rule.{Rule}
use Rattle.mh_rules.specs.Depth.{actual_depth, IsActualShallow, AreProducersShallow}
use Rattle.mh_rules.proofs.Depth.{depth_within}
use Rattle.mh_reader_parser.specs.TokenKinds.{FileToken}
use Rattle.mh_reader_parser.specs.Spelling as spelling
use Rattle.mh_reader_parser.specs.Spelling.{Suffixed, Unsuffixed, Args, IsActual, LimitedActual}
use Rattle.mh_reader_parser.proofs.FitsModule.{FitsActual, FitsAlternative, FitsRule}

raised : (m n : ℕ) → m ≤ n → (ks : List Actual) → AllByRecursion (λ k. actual_depth k ≤ m) ks → AllByRecursion (λ k. actual_depth k ≤ n) ks
raised m n l [] h = tt
raised m n l (k ∷ ks) h = (le_trans h.0 l, raised m n l ks h.1)

-- The bound is kept if one more actual is appended.
more_within : (done : List Actual) (m : ℕ) (a : Actual) (d : ℕ) → AllByRecursion (λ k. actual_depth k ≤ m) done → actual_depth a ≤ d → AllByRecursion (λ k. actual_depth k ≤ max m d) (done ++ a ∷ [])
more_within done m a d h l = recursion-push (λ k. actual_depth k ≤ max m d) done a (raised m (max m d) (le-max_left m d) done h) (le_trans l (le-max_right m d))

suffixed_within : {xs rest : List FileToken} {a b : Actual} {d e : ℕ} → Suffixed a d xs rest b e → actual_depth a ≤ d → actual_depth b ≤ e
suffixed_within spelling.Suffixed.bare h = h
suffixed_within (spelling.Suffixed.suffix {a = a} {d = d} {n = n} f s) h = suffixed_within s (depth_within d (Plain n) (a ∷ []) (h, tt))

mutual
  actual_within : {xs rest : List FileToken} {a : Actual} {d : ℕ} → IsActual xs rest a d → actual_depth a ≤ d
  actual_within (spelling.IsActual.actual b s) = suffixed_within s (base_within b)

  base_within : {xs rest : List FileToken} {a : Actual} {d : ℕ} → Unsuffixed xs rest a d → actual_depth a ≤ d
  base_within (spelling.Unsuffixed.plain {r = r} e) = depth_within 0 r [] tt
  base_within (spelling.Unsuffixed.with_args {r = r} {ks = ks} {d = d} e o b) = depth_within d r ks (args_within b tt)

  args_within : {done all : List Actual} {m e : ℕ} {xs rest : List FileToken} → Args done m xs rest all e → AllByRecursion (λ k. actual_depth k ≤ m) done → AllByRecursion (λ k. actual_depth k ≤ e) all
  args_within (spelling.Args.last {done = done} {m = m} {d = d} {a = a} b e) h = more_within done m a d h (actual_within b)
  args_within (spelling.Args.more {done = done} {m = m} {d = d} {a = a} b f t) h = args_within t (more_within done m a d h (actual_within b))

limited_shallow : {xs rest : List FileToken} {a : Actual} → LimitedActual xs rest a → IsActualShallow a
limited_shallow (spelling.LimitedActual.limited b l) = le_trans (actual_within b) l

-- Lemmas on modules.

actuals_shallow : (ks : List Actual) → AllByRecursion FitsActual ks → AllByRecursion IsActualShallow ks
actuals_shallow [] h = tt
actuals_shallow (k ∷ ks) h = (limited_shallow (h.0.reads_back []), actuals_shallow ks h.1)

alternatives_shallow : (ks : List Alternative) → AllByRecursion FitsAlternative ks → AllByRecursion (λ (a : Alternative). All IsActualShallow a.producers) ks
alternatives_shallow [] h = tt
alternatives_shallow (k ∷ ks) h = (All-from_recursion IsActualShallow k.producers (actuals_shallow k.producers h.0.producers), alternatives_shallow ks h.1)

pub producers_shallow : (rs : List Rule) → AllByRecursion FitsRule rs → AllByRecursion AreProducersShallow rs
producers_shallow [] h = tt
producers_shallow (r ∷ rs) h =
    (All-from_recursion (λ (a : Alternative). All IsActualShallow a.producers) r.alternatives (alternatives_shallow r.alternatives h.0.alternatives), producers_shallow rs h.1)

pub on_error_lists_shallow : (ks : List (List Actual)) → AllByRecursion (AllByRecursion FitsActual) ks → AllByRecursion (All IsActualShallow) ks
on_error_lists_shallow [] h = tt
on_error_lists_shallow (k ∷ ks) h = (All-from_recursion IsActualShallow k (actuals_shallow k h.0), on_error_lists_shallow ks h.1)
