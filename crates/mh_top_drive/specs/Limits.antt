-- The limits on files and on the input.
use Rattle.std.specs.Prelude.{ℕ}

-- The most bytes of a file: 16 MiB.
abbrev pub file_limit : ℕ
file_limit = 16777216

-- The most bytes of an input line, without its line feed: 1 MiB.
abbrev pub line_limit : ℕ
line_limit = 1048576

-- The most lines of an input.
abbrev pub line_count_limit : ℕ
line_count_limit = 1000000
