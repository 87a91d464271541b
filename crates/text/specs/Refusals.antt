-- The refusals that rest on the input alone, with their numbers and words. Assumes nothing.
use Rattle.std.specs.Prelude.{ℕ, List, ◌∷◌, ◌++◌, codes, decimal}
use Rattle.text.specs.declared.refusal.Refusal.{Refusal}
use Rattle.text.specs.declared.refusal.Refusal.TheVariants.{Size, Prompt, Text, Long, Place, Tall, Torn}

abbrev pub refusal_number : Refusal → ℕ
refusal_number Size = 1
refusal_number Prompt = 2
refusal_number Text = 3
refusal_number Long = 4
refusal_number Place = 5
refusal_number Tall = 6
refusal_number Torn = 7

abbrev pub refusal_word : Refusal → List ℕ
refusal_word Size = codes "size"
refusal_word Prompt = codes "prompt"
refusal_word Text = codes "text"
refusal_word Long = codes "long"
refusal_word Place = codes "place"
refusal_word Tall = codes "tall"
refusal_word Torn = codes "torn"

-- the number, a space and the word
abbrev pub refusal_text : Refusal → List ℕ
refusal_text r = decimal (refusal_number r) ++ 32 ∷ refusal_word r
