-- Lemmas that combine the operations of the code into the cases of placing a move.
use Rattle.std.proofs.Common.{◌≡◌, ◌<◌, ℕ, [], ◌∷◌, ◌++◌, Some, Result, Ok, Err, IfOk, length, refl, sym, ◌∙◌, arith, inl, inr}
use Rattle.std.proofs.lemmas.List.{length_push}
use Rattle.mh_grammar.specs.Plain.{PlainGrammar}
use Rattle.mh_items_kernels.specs.KernelTypes.{Kernel}
use Rattle.mh_items_kernels.specs.Kernels.{Holds}
use Rattle.mh_pager.specs.WeakCompatibility.{IsJoin}
use Rattle.mh_pager.specs.code.Worklist.{JoinsMoveAt, AppendsMove}
use Rattle.mh_pager.specs.FirstState.{IsFirst, HasNoneWith}
use Rattle.mh_pager.specs.MergeSteps.{MergeState, ContainsMove, IsCompatibleWithMove, PlacesMove}

pub if_ok : {A E : Type 0} {P Q : A → Type 0} (r : Result A E) → IfOk r P → ((a : A) → P a → Q a) → IfOk r Q
if_ok (Ok a) h f = f a h
if_ok (Err e) h f = tt

pub if_both : {A E : Type 0} {P Q R : A → Type 0} (r : Result A E) → IfOk r P → IfOk r Q → ((a : A) → P a → Q a → R a) → IfOk r R
if_both (Ok a) h k f = f a h k
if_both (Err e) h k f = tt

pub placed_by_joining : (g : PlainGrammar) (move : Kernel) (old new : MergeState) (n : ℕ) → HasNoneWith (ContainsMove move) old.kernels → (k : Kernel) → IsFirst (IsCompatibleWithMove move) old.kernels n k → JoinsMoveAt g move old new n → PlacesMove g move old new n
placed_by_joining g move old new n unkept k first t =
    let one : Some t.kernel ≡ Some k = sym t.at ∙ first.at in
    let same : t.kernel ≡ k = cc in
    let join : IsJoin (Holds k) (Holds move) (Holds t.joined) = rw same at t.join in
    inr (inl (record { kernel = k; joined = t.joined; none_contains = unkept; first = first; valid = t.valid; join = join; kernels = t.kernels; rows = t.rows; queue = t.queue }))

pub placed_by_appending : (g : PlainGrammar) (move : Kernel) (old new : MergeState) (n : ℕ) → HasNoneWith (ContainsMove move) old.kernels → HasNoneWith (IsCompatibleWithMove move) old.kernels → AppendsMove move old new n → PlacesMove g move old new n
placed_by_appending g move old new n unkept untaken a = inr (inr (record { none_contains = unkept; none_compatible = untaken; last = a.last; kernels = a.kernels; rows = a.rows; queue = a.queue }))

-- If no state contains the move or is compatible with it and the list is as long as the limit, placing the move exceeds
-- the limit.
pub placing_exceeds : (g : PlainGrammar) (move : Kernel) (old : MergeState) (limit : ℕ) → HasNoneWith (ContainsMove move) old.kernels → HasNoneWith (IsCompatibleWithMove move) old.kernels → length old.kernels ≡ limit → (n : ℕ) × (new : MergeState) × PlacesMove g move old new n × (limit < length new.kernels)
placing_exceeds g move old limit unkept untaken e = (
  length old.kernels,
  record { kernels = old.kernels ++ move ∷ []; rows = old.rows ++ [] ∷ []; queue = old.queue ++ length old.kernels ∷ [] },
  inr (inr (record { none_contains = unkept; none_compatible = untaken; last = refl; kernels = refl; rows = refl; queue = refl })),
  omega (arith, length_push old.kernels move),
)
