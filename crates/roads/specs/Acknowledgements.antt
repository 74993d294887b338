-- What is answered on the wire: document 01's column "Reply", and the acknowledgements of sections 5.2 and 5.3 of source document 001, paired by their cause.
use Rattle.std.specs.Prelude.{ℕ, cond, Option, Some, None, List, [], ◌∷◌, eqb}
use Rattle.zone.specs.declared.figures.Figures.{Figures}
use Rattle.zone.specs.Lists.{is_zero, ascii}
use Rattle.roads.specs.declared.answering.Acknowledgement.{Acknowledgement}
use Rattle.roads.specs.declared.answering.Acknowledgement.TheVariants.{Okay, CommandError, SyntaxError, CommandLock, TransferError}
use Rattle.line.specs.Line.{A, line_with}
use Rattle.frame.specs.Frame.{body_with, framed, short_frame}

-- section 5.2: the text of each
abbrev pub text_of : Acknowledgement → List ℕ
-- "error-free communication during which no response is transmitted"
text_of Okay = ascii "QOK00"
-- "the received command name is unknown to the controller"
text_of CommandError = ascii "QFE01"
-- "a syntax or parameter error in the telegram .. or if the telegram is incomplete"
text_of SyntaxError = ascii "QFE02"
-- "the telegram's activities have not yet been approved"
text_of CommandLock = ascii "QFE03"
-- the one that is left: no line has a checksum, and no call on the text road gives 6
text_of TransferError = ascii "QFE04"

-- section 5.3: the function byte of each
abbrev pub function_of : Acknowledgement → ℕ
-- "setting the function field FF to 00h"
function_of Okay = 0x00
-- bit 4: "the code of the function field FF or the command index BI is unknown"
function_of CommandError = 0x10
-- bit 7: "a syntax or parameter error in the telegram"
function_of SyntaxError = 0x80
-- bit 3: "the telegram's activities have not yet been approved"
function_of CommandLock = 0x08
-- bit 5: "the checksum PS is defective"
function_of TransferError = 0x20

-- "Reply", for the numbers of refusals; 9 is a "syntax error on the two roads, else none"; most have none (None)
abbrev pub reply_to : ℕ → Option Acknowledgement
reply_to number =
    cond (eqb number 6) (Some TransferError)
    (cond (eqb number 7) (Some CommandError)
    (cond (eqb number 8) (Some SyntaxError)
    (cond (eqb number 9) (Some SyntaxError)
    (cond (eqb number 10) (Some CommandLock)
    None))))

-- ---- the text road

-- what is replied: nothing, or the acknowledgement
abbrev pub in_text : Option Acknowledgement → List ℕ
in_text None = []
in_text (Some a) = text_of a

abbrev pub text_refusal : ℕ → List ℕ
text_refusal number = in_text (reply_to number)

-- done without values is a write: "A done write is answered QOK00". Done with figures is a read: "The reply to a read is A in place of S, otherwise the write line of the stored figures"
abbrev pub text_done : List Figures → List ℕ
text_done [] = text_of Okay
text_done (figures ∷ more) = line_with A figures

unfoldable pub text_reply : ℕ → List Figures → List ℕ
text_reply number values = cond (is_zero number) (text_done values) (text_refusal number)

-- ---- the frame road

-- the same, under an address
abbrev pub in_frame : ℕ → Option Acknowledgement → List ℕ
in_frame address None = []
in_frame address (Some a) = short_frame address (function_of a)

abbrev pub frame_refusal : ℕ → ℕ → List ℕ
frame_refusal address number = in_frame address (reply_to number)

-- likewise: "A done write gets the short frame"; "A read reply is the frame with function 00 and the stored figures"
abbrev pub frame_done : ℕ → List Figures → List ℕ
frame_done address [] = short_frame address (function_of Okay)
frame_done address (figures ∷ more) = framed (body_with address (function_of Okay) figures)

unfoldable pub frame_reply : ℕ → ℕ → List Figures → List ℕ
frame_reply address number values = cond (is_zero number) (frame_done address values) (frame_refusal address number)
