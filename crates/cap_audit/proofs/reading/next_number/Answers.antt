use Rattle.cap_audit.proofs.Prelude.{◌≡◌, ◌∷◌, ◌++◌, [], ap, drop, sym, ◌∙◌, decimal, blanked}
use Rattle.cap_audit.proofs.Pieces.{begins_so}
use Rattle.cap_audit.proofs.Blanks.{number_is, number_word, past_word}
use Rattle.cap_audit.proofs.reading.next_number.Goals as goal

pub returns-in_default-number_of : goal.returns-in_default-number_of
returns-in_default-number_of c = λ n more small is.
    let cases = c.in-Some.ensures.cases in
    let begins = begins_so c.args.bytes.now c.in-Some.rest.now (32 ∷ []) cases.0 cases.1 in
    let rest : c.in-Some.rest.now ≡ decimal n ++ blanked more = ap (drop 1) (sym begins ∙ is) in
    let word = c.word_of-word.ensures.word (decimal n) (blanked more) (number_word c.in-Some.rest.now n more small rest) in
    let read = c.in_default-number_of.ensures n small word in
    cc read

pub returns : goal.returns
returns c = λ n more small is.
    let cases = c.in-Some.ensures.cases in
    let begins = begins_so c.args.bytes.now c.in-Some.rest.now (32 ∷ []) cases.0 cases.1 in
    let rest : c.in-Some.rest.now ≡ decimal n ++ blanked more = ap (drop 1) (sym begins ∙ is) in
    let word = c.word_of-word.ensures.word (decimal n) (blanked more) (number_word c.in-Some.rest.now n more small rest) in (
      number_is c.number_of.result c.in-Some-number_of.number n c.in-Some-number_of.is (c.number_of.ensures n small word),
      past_word c.in-Some.rest.now c.word_of-word.result.now (decimal n) (blanked more) rest word,
    )
