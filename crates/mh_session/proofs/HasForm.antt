-- Proves that the form computed from a line is the form of the line, and that the command read from the form is its
-- meaning.
use Rattle.std.proofs.Common.{◌≡◌, Bool, true, false, List, [], ◌∷◌, Option, Some, None, Result, Ok, Err, refl, ap, sym, ◌∙◌}
use Rattle.std.specs.Prelude.{codes, if◌then◌else◌}
use Rattle.std.specs.List.{list_all}
use Rattle.mh_lex_bytes.specs.Words.{is_word}
use Rattle.mh_msgfile.specs.Sentences.{Vocabulary, pieces}
use Rattle.mh_session_branches.specs.declared.command.Command.{Command}
use Rattle.mh_session_branches.specs.declared.fault.CommandFault.{CommandFault}
use Rattle.mh_session_branches.specs.declared.fault.CommandFault.TheVariants as faults
use Rattle.mh_grammar.specs.Text.{Text}
use Rattle.mh_session_branches.specs.Names.{same}
use Rattle.mh_session_branches.specs.LineForms.{Form, BeginOnly, BeginAt, OfferTo, FeedTo, ResumeOf, ForkTo, ShowOf, StackOf, TreeOf, ExpectedOf, ForgetOf, words_of, HasForm, meaning_of_form, ReadsCommand}
use Rattle.mh_session_branches.specs.FormOfLine.{form_with_one_name, form_with_two_names, form_with_more_names, form_of_words, form_of}
use Rattle.mh_session_branches.proofs.OneForm.{form_found}
use Rattle.mh_session.specs.code.Forms.{IsResultOfMeaning}
use Rattle.mh_grammar.proofs.TextEquality.{equal_from_same}

-- The words from which a form is computed are the words of this form.

-- If the verb is compared with one form and, if it differs, with the other forms, the words are those of the form that
-- is found.
pick : (verb : Text) (text : Text) (a form : Form) (rest : List Text) (o : Option Form) → words_of a ≡ text ∷ rest → (o ≡ Some form → verb ∷ rest ≡ words_of form) → (b : Bool) → same verb text ≡ b → (if b then Some a else o) ≡ Some form → verb ∷ rest ≡ words_of form
pick verb text a form rest o w later true e h = let is : verb ≡ text = equal_from_same verb text e in let one : a ≡ form = cc in ap (λ (x : Text). x ∷ rest) is ∙ sym w ∙ ap words_of one
pick verb text a form rest o w later false e h = later h

one_words : (verb name : Text) (form : Form) → form_with_one_name verb name ≡ Some form → verb ∷ name ∷ [] ≡ words_of form
unfolding form_with_one_name
one_words verb name form =
    pick verb (codes "begin") (BeginOnly name) form (name ∷ []) _ refl
    (pick verb (codes "resume") (ResumeOf name) form (name ∷ []) _ refl
    (pick verb (codes "show") (ShowOf name) form (name ∷ []) _ refl
    (pick verb (codes "stack") (StackOf name) form (name ∷ []) _ refl
    (pick verb (codes "tree") (TreeOf name) form (name ∷ []) _ refl
    (pick verb (codes "expected") (ExpectedOf name) form (name ∷ []) _ refl
    (pick verb (codes "forget") (ForgetOf name) form (name ∷ []) None refl (λ h. cc) (same verb (codes "forget")) refl)
    (same verb (codes "expected")) refl)
    (same verb (codes "tree")) refl)
    (same verb (codes "stack")) refl)
    (same verb (codes "show")) refl)
    (same verb (codes "resume")) refl)
    (same verb (codes "begin")) refl

two_words : (verb name other : Text) (form : Form) → form_with_two_names verb name other ≡ Some form → verb ∷ name ∷ other ∷ [] ≡ words_of form
unfolding form_with_two_names
two_words verb name other form =
    pick verb (codes "begin") (BeginAt name other) form (name ∷ other ∷ []) _ refl
    (pick verb (codes "offer") (OfferTo name other) form (name ∷ other ∷ []) _ refl
    (pick verb (codes "feed") (FeedTo name other []) form (name ∷ other ∷ []) _ refl
    (pick verb (codes "fork") (ForkTo name other) form (name ∷ other ∷ []) None refl (λ h. cc) (same verb (codes "fork")) refl)
    (same verb (codes "feed")) refl)
    (same verb (codes "offer")) refl)
    (same verb (codes "begin")) refl

more_words : (verb name first : Text) (more : List Text) (form : Form) → form_with_more_names verb name first more ≡ Some form → verb ∷ name ∷ first ∷ more ≡ words_of form
unfolding form_with_more_names
more_words verb name first more form = pick verb (codes "feed") (FeedTo name first more) form (name ∷ first ∷ more) None refl (λ h. cc) (same verb (codes "feed")) refl

all_words : (words : List Text) (form : Form) → form_of_words words ≡ Some form → words ≡ words_of form
all_words [] form e = cc
all_words (verb ∷ []) form e = cc
all_words (verb ∷ name ∷ []) form e = one_words verb name form e
all_words (verb ∷ name ∷ other ∷ []) form e = two_words verb name other form e
all_words (verb ∷ name ∷ first ∷ second ∷ words) form e = more_words verb name first (second ∷ words) form e

by_all : (b : Bool) (words : List Text) (form : Form) → (if b then form_of_words words else None) ≡ Some form → (b ≡ true) × (words ≡ words_of form)
by_all true words form e = (refl, all_words words form e)
by_all false words form e = cc

pub its_form : (line : Text) (form : Form) → form_of line ≡ Some form → HasForm line form
its_form line form e = let h = by_all (list_all is_word (pieces line)) (pieces line) form e in record { words = h.1; each = h.0 }

-- Lemmas for the code.

-- If the result is that of the line's meaning, it is the result of reading the line.
reads_said : (v : Vocabulary) (line : Text) (form : Form) (r : Result Command CommandFault) → HasForm line form → IsResultOfMeaning (meaning_of_form v form) r → ReadsCommand v line r
reads_said v line form (Ok command) h s = (form, h, s)
reads_said v line form (Err faults.Unreadable) h s = absurd s
reads_said v line form (Err (faults.UnknownStart name)) h s = (form, h, s)
reads_said v line form (Err faults.MissingStart) h s = (form, h, s)
reads_said v line form (Err (faults.UnknownToken name)) h s = (form, h, s)
reads_said v line form (Err faults.Memory) h s = tt

pub reads : (v : Vocabulary) (line : Text) (form : Form) (r : Result Command CommandFault) → Some form ≡ form_of line → IsResultOfMeaning (meaning_of_form v form) r → ReadsCommand v line r
reads v line form r e s = reads_said v line form r (its_form line form (sym e)) s

pub not_readable : (line : Text) → None ≡ form_of line → (form : Form) → HasForm line form → ⊥
not_readable line e form h = let both = e ∙ form_found line form h in cc
