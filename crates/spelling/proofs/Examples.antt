-- The examples, by computing.
use mathlib.Core.Path.{refl}
use Rattle.content.specs.WrongByte.{valid_content, first_from}
use Rattle.description.specs.Grammar.{same, within, any, all}
use Rattle.description.specs.Reader.{is_name}
use Rattle.spelling.specs.Words.{runs, word_length, words_from}
use Rattle.spelling.specs.Literals.{is_text, is_number, doubled, undoubled, without_point, after_point}
use Rattle.spelling.specs.Meanings.{count, position, lookup, meaning, next}
use Rattle.spelling.specs.Reading.{pieces_from, first_fault, tokens_from, rows_from, bytes_of, reading}
use Rattle.spelling.specs.Examples.{plain, named, examples, named_examples, AllGive}

pub examples-right : AllGive plain examples
unfolding runs word_length words_from is_text is_number is_name same within any all valid_content first_from doubled undoubled without_point after_point count position lookup meaning next pieces_from first_fault tokens_from rows_from bytes_of reading
examples-right = (
  refl,
  (
    refl,
    (
      refl,
      (
        refl,
        (
          refl,
          (
            refl,
            (
              refl,
              (
                refl,
                (
                  refl,
                  (
                    refl,
                    (
                      refl,
                      (
                        refl,
                        (
                          refl,
                          (
                            refl,
                            (
                              refl,
                              (
                                refl,
                                (
                                  refl,
                                  (
                                    refl,
                                    (
                                      refl,
                                      (
                                        refl,
                                        (
                                          refl,
                                          (refl, (refl, (refl, (refl, (refl, (refl, (refl, tt))))))),
                                        ),
                                      ),
                                    ),
                                  ),
                                ),
                              ),
                            ),
                          ),
                        ),
                      ),
                    ),
                  ),
                ),
              ),
            ),
          ),
        ),
      ),
    ),
  ),
)

pub named_examples-right : AllGive named named_examples
unfolding runs word_length words_from is_text is_number is_name same within any all valid_content first_from doubled undoubled without_point after_point count position lookup meaning next pieces_from first_fault tokens_from rows_from bytes_of reading
named_examples-right = (refl, (refl, (refl, (refl, (refl, (refl, tt))))))
