-- What a reader is left with once a word was read from it, where its bytes are known.
use Rattle.std.specs.Prelude.{◌≡◌, ℕ, List, length, Option, Result, IfOk}
use Rattle.std.specs.Io.KnownBytes.{Consumes}
use Rattle.patterns.specs.Words.{word_at}

-- eight bytes are gone, and the word is theirs, the most significant first
abbrev pub TakesWord : {E : Type 0} → Option (List ℕ) → Option (List ℕ) → Result ℕ E → Type 0
TakesWord before after answer = IfOk answer (λ word. (bytes : List ℕ) × Consumes before after bytes × (length bytes ≡ 8) × (word ≡ word_at bytes 0))
