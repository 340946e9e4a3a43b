-- Lemmas on two stages in sequence: the result is unique, a stop of the first stage is the result of both, and a value
-- of the first is passed to the second.
use Rattle.std.proofs.Common.{◌≡◌, refl, sym, ◌∙◌, subst, Ok, Err, Result}
use Rattle.mh_grammar.specs.Text.{Text}
use Rattle.mh_top_drive.specs.StageResults.{StageResult, Go, Halt, AfterStage, Then}
use Rattle.mh_top_drive.specs.code.StageCalls.{FileStageGives, StageGives}
use Rattle.mh_top_drive.specs.declared.stop.Stop.{Stop}
use Rattle.mh_top_drive.specs.declared.stop.Stop.TheVariants.{Halted, ShelfFailed, InputFailed, WriteFailed, OutOfMemory}

abbrev pub IsOne : {A : Type 0} → (A → Type 0) → Type 0
IsOne {A = A} Is = (x y : A) → Is x → Is y → x ≡ y

module _ {A B : Type 0} where
  pub on_once : (first : StageResult A) (Next : A → StageResult B → Type 0) → ((x : A) → IsOne (Next x)) → IsOne (AfterStage first Next)
  on_once (Go x) Next once s r p q = once x s r p q
  on_once (Halt cause) Next once s r p q = p ∙ sym q

  pub then_once : (First : StageResult A → Type 0) (Next : A → StageResult B → Type 0) → IsOne First → ((x : A) → IsOne (Next x)) → IsOne (Then First Next)
  then_once First Next one once s r p q =
      let same : q.0 ≡ p.0 = one q.0 p.0 q.1 p.1 in on_once p.0 Next once s r p.2 (subst (λ (f : StageResult A). AfterStage f Next r) same q.2)

  -- If the first stage gives a value, the code's result of the second stage is one of both stages.
  pub then_on : (First : StageResult A → Type 0) (Next : A → StageResult B → Type 0) (Names : Text → Type 0) (x : A) (r : Result B Stop) → First (Go x) → FileStageGives (Next x) Names r → FileStageGives (Then First Next) Names r
  then_on First Next Names x (Ok y) is has = (Go x, is, has)
  then_on First Next Names x (Err (Halted cause)) is has = (Go x, is, has)
  then_on First Next Names x (Err (ShelfFailed name)) is has = has
  then_on First Next Names x (Err OutOfMemory) is has = tt
  then_on First Next Names x (Err InputFailed) is has = absurd has
  then_on First Next Names x (Err WriteFailed) is has = absurd has

  -- If the code of the first stage stops, this is a result of both stages.
  pub then_stops : (First : StageResult A → Type 0) (Next : A → StageResult B → Type 0) (Names : Text → Type 0) (stop : Stop) → FileStageGives First Names (Err stop) → FileStageGives {A = B} (Then First Next) Names (Err stop)
  then_stops First Next Names (Halted cause) has = (Halt cause, has, refl)
  then_stops First Next Names (ShelfFailed name) has = has
  then_stops First Next Names OutOfMemory has = tt
  then_stops First Next Names InputFailed has = absurd has
  then_stops First Next Names WriteFailed has = absurd has

module _ {A : Type 0} where
  -- A result of a stage stays one if the shelf may fail at more files.
  pub names_wider : (Has : StageResult A → Type 0) (Names Wider : Text → Type 0) (r : Result A Stop) → ((name : Text) → Names name → Wider name) → FileStageGives Has Names r → FileStageGives Has Wider r
  names_wider Has Names Wider (Ok x) wider has = has
  names_wider Has Names Wider (Err (Halted cause)) wider has = has
  names_wider Has Names Wider (Err (ShelfFailed name)) wider has = wider name has
  names_wider Has Names Wider (Err OutOfMemory) wider has = tt
  names_wider Has Names Wider (Err InputFailed) wider has = absurd has
  names_wider Has Names Wider (Err WriteFailed) wider has = absurd has

  pub no_names : (Has : StageResult A → Type 0) (Wider : Text → Type 0) (r : Result A Stop) → StageGives Has r → FileStageGives Has Wider r
  no_names Has Wider r has = names_wider Has (λ name. ⊥) Wider r (λ name none. absurd none) has
