-- What is wrong in a line where a number or a string cannot be read. Assumes nothing.
use Rattle.script.specs.declared.error.Wrong.{Wrong}
use Rattle.script.specs.declared.error.Wrong.TheVariants as wrongs
use Rattle.script.specs.declared.escape.StringFault.{StringFault}
use Rattle.script.specs.declared.escape.StringFault.TheVariants as strings
use Rattle.script.specs.declared.number.NumberFault.{NumberFault}
use Rattle.script.specs.declared.number.NumberFault.TheVariants as numbers

abbrev pub wrong_number : NumberFault → Wrong
wrong_number numbers.Digits = wrongs.NoNumber
wrong_number numbers.Large = wrongs.Range

abbrev pub wrong_string : StringFault → Wrong
wrong_string strings.Unclosed = wrongs.Unclosed
wrong_string strings.Escape = wrongs.Escape
wrong_string strings.Memory = wrongs.Memory
