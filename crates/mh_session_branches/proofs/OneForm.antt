-- Proves that a session line has at most one form and one meaning.
use Rattle.std.proofs.Common.{◌≡◌, Bool, true, false, [], ◌∷◌, Option, Some, None, refl, ap, sym, ◌∙◌}
use Rattle.std.specs.Prelude.{if◌then◌else◌}
use Rattle.std.specs.List.{list_all}
use Rattle.mh_lex_bytes.specs.Words.{is_word}
use Rattle.mh_msgfile.specs.Sentences.{Vocabulary, pieces}
use Rattle.mh_grammar.specs.Text.{Text}
use Rattle.mh_session_branches.specs.LineForms.{Form, BeginOnly, BeginAt, OfferTo, FeedTo, ResumeOf, ForkTo, ShowOf, StackOf, TreeOf, ExpectedOf, ForgetOf, words_of, HasForm, LineMeaning, meaning_of_form, LineMeans}
use Rattle.mh_session_branches.specs.FormOfLine.{form_with_one_name, form_with_two_names, form_with_more_names, form_of_words, form_of}

-- If words are written from a form, `form_of_words` finds this form again.
of_its_words : (form : Form) → form_of_words (words_of form) ≡ Some form
unfolding form_with_one_name form_with_two_names form_with_more_names
of_its_words (BeginOnly name) = refl
of_its_words (BeginAt name start) = refl
of_its_words (OfferTo name token) = refl
of_its_words (FeedTo name first []) = refl
of_its_words (FeedTo name first (second ∷ more)) = refl
of_its_words (ResumeOf name) = refl
of_its_words (ForkTo name fresh) = refl
of_its_words (ShowOf name) = refl
of_its_words (StackOf name) = refl
of_its_words (TreeOf name) = refl
of_its_words (ExpectedOf name) = refl
of_its_words (ForgetOf name) = refl

by_bool : (b : Bool) (x : Option Form) → b ≡ true → (if b then x else None) ≡ x
by_bool true x e = refl
by_bool false x e = cc

pub form_found : (line : Text) (form : Form) → HasForm line form → form_of line ≡ Some form
form_found line form h = by_bool (list_all is_word (pieces line)) (form_of_words (pieces line)) h.each ∙ ap form_of_words h.words ∙ of_its_words form

-- Two forms of the same line are equal.
pub one_form : (line : Text) (a b : Form) → HasForm line a → HasForm line b → a ≡ b
one_form line a b h k = let e = sym (form_found line a h) ∙ form_found line b k in cc

pub meaning_unique : (v : Vocabulary) (line : Text) (a b : LineMeaning) → LineMeans v line a → LineMeans v line b → a ≡ b
meaning_unique v line a b h k = sym h.2 ∙ ap (meaning_of_form v) (one_form line h.0 k.0 h.1 k.1) ∙ k.2
