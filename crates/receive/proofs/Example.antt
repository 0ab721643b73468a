-- Document 01, "Programs": the output that it gives in whole is that of the definition.
use mathlib.Core.Path.{◌≡◌, refl}
use mathlib.Core.List.{[], ◌∷◌}
use Rattle.printing.specs.Text.{ascii, decimal_in, decimal, hex_digit, hex_byte, numbered, triple, number_line, shape_line}
use Rattle.receive.specs.declared.receiving.Outcome.TheVariants.{Came}
use Rattle.receiver.specs.declared.Ending.TheVariants.{File}
use Rattle.receive.specs.Printed.{cells_left, head_lines, file_line, opening_lines, separator, byte_text, joined, came_texts, texts, came_text, text_of, printed}

-- "For shape 3, 3, 3, W 5, file 08h, without packet (0,0,0)"
pub example :
    printed [] (8 ∷ []) (Came (record { shape = record { l1 = 3; l2 = 3; l3 = 3; w = 5 }; received = record { ending = File 1; counts = record { packets = 26; repeats = 0; conflicts = 0 } } }))
    ≡ ascii "shape 3 3 3 5\npackets 26\nrepeats 0\nleft 0\nfile 1\n08\n"
unfolding decimal_in decimal hex_digit hex_byte numbered triple number_line shape_line cells_left head_lines file_line opening_lines separator byte_text joined came_texts texts came_text text_of printed
example = refl
