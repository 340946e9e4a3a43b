use Rattle.std.proofs.Common.{◌≡◌, ◌∙◌, ℕ, List, Option, Some, None, sym, ap, subst}
use Rattle.std.specs.Prelude.{MatchOption, slice_get}
use Rattle.mh_check.specs.declared.places.SentencePlace.{SentencePlace}
use Rattle.mh_check.specs.code.Places.{place_in}
use Rattle.mh_check.proofs.IsCompiled.{message_some, message_none}
use Rattle.mh_check.proofs.compiled.Compiled.message.Goals as goal

pub returns-in-Some : goal.returns-in-Some
returns-in-Some c =
    let here = ap (λ (ps : List (Option SentencePlace)). place_in ps c.args.state) (sym c.as_slice.ensures.value) ∙ sym c.place_at.ensures ∙ c.in-Some.is in
    message_some _ _ _ c.self.view_is c.args.state c.in-Some.place c.message_at_place.result here
    (subst (λ (ms : List (List ℕ)). MatchOption c.message_at_place.result (slice_get ms c.in-Some.place.entry ≡ None) (λ m. slice_get ms c.in-Some.place.entry ≡ Some m.now)) c.as_slice-in-Some.ensures.value c.message_at_place.ensures)

pub returns-in-None : goal.returns-in-None
returns-in-None c = message_none _ _ _ c.self.view_is c.args.state (ap (λ (ps : List (Option SentencePlace)). place_in ps c.args.state) (sym c.as_slice.ensures.value) ∙ sym c.place_at.ensures ∙ c.in-None.is)
