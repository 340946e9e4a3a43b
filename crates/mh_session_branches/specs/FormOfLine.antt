-- The form of a session line, computed from its words.
use Rattle.std.specs.Prelude.{List, [], ◌∷◌, Option, Some, None, codes, if◌then◌else◌}
use Rattle.std.specs.List.{list_all}
use Rattle.mh_lex_bytes.specs.Words.{is_word}
use Rattle.mh_msgfile.specs.Sentences.{pieces}
use Rattle.mh_grammar.specs.Text.{Text}
use Rattle.mh_session_branches.specs.Names.{same}
use Rattle.mh_session_branches.specs.LineForms.{Form, BeginOnly, BeginAt, OfferTo, FeedTo, ResumeOf, ForkTo, ShowOf, StackOf, TreeOf, ExpectedOf, ForgetOf}

-- The form of a line of two words: a verb and a name.
unfoldable pub form_with_one_name : Text → Text → Option Form
form_with_one_name verb name =
    if same verb (codes "begin") then Some (BeginOnly name)
    else if same verb (codes "resume") then Some (ResumeOf name)
    else if same verb (codes "show") then Some (ShowOf name)
    else if same verb (codes "stack") then Some (StackOf name)
    else if same verb (codes "tree") then Some (TreeOf name)
    else if same verb (codes "expected") then Some (ExpectedOf name)
    else if same verb (codes "forget") then Some (ForgetOf name)
    else None

-- The form of a line of three words: a verb and two names.
unfoldable pub form_with_two_names : Text → Text → Text → Option Form
form_with_two_names verb name other =
    if same verb (codes "begin") then Some (BeginAt name other)
    else if same verb (codes "offer") then Some (OfferTo name other)
    else if same verb (codes "feed") then Some (FeedTo name other [])
    else if same verb (codes "fork") then Some (ForkTo name other)
    else None

-- The form of a line of more words: a verb and more than two names.
unfoldable pub form_with_more_names : Text → Text → Text → List Text → Option Form
form_with_more_names verb name first more = if same verb (codes "feed") then Some (FeedTo name first more) else None

abbrev pub form_of_words : List Text → Option Form
form_of_words [] = None
form_of_words (verb ∷ []) = None
form_of_words (verb ∷ name ∷ []) = form_with_one_name verb name
form_of_words (verb ∷ name ∷ other ∷ []) = form_with_two_names verb name other
form_of_words (verb ∷ name ∷ first ∷ second ∷ words) = form_with_more_names verb name first (second ∷ words)

-- The form of a line with these pieces, if each piece is a word.
abbrev pub form_of_pieces : List Text → Option Form
form_of_pieces words = if list_all is_word words then form_of_words words else None

-- The form of a line, if it has one.
abbrev pub form_of : Text → Option Form
form_of line = form_of_pieces (pieces line)
