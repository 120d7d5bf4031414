-- Lost frames: antt computes what is put, what is clear, and what is answered.
use Rattle.std.proofs.Common.{ℕ, refl}
use Rattle.std.proofs.lemmas.Bool.{le-leb}
use Rattle.flow.specs.Cutting.{cut, paddings}
use Rattle.specimens.specs.Losses.{OfThreeFrames, OfTwoFrames, LostFrames}
use Rattle.specimens.proofs.Contents.{spelled, of_every_two, own}

spelled_three : (a b : ℕ → ℕ) → OfThreeFrames (spelled 200 a) (spelled 100 b)
unfolding cut paddings
spelled_three a b = record {
  written = record { accepted = λ id. (λ room fits. rw le-leb, (rw own, (rw own, rw own)), tt); put_is = refl };
  none_lost = record { clear_are = refl; answers_are = refl };
  first_lost = record { clear_are = refl; answers_are = refl };
  second_lost = record { clear_are = refl; answers_are = refl };
  third_lost = record { clear_are = refl; answers_are = refl };
}

spelled_two : (a b : ℕ → ℕ) → OfTwoFrames (spelled 121 a) (spelled 121 b)
unfolding cut paddings
spelled_two a b = record {
  in_one_written = record { accepted = λ id. (λ room fits. rw le-leb, (rw own, (rw own, rw own)), tt); put_is = refl };
  in_one = record { clear_are = refl; answers_are = refl };
  in_two_written = record {
    accepted = λ id. (λ room fits. rw le-leb, (rw own, rw own), (λ room fits. rw le-leb, (rw own, rw own), tt));
    put_is = refl;
  };
  in_two = record { clear_are = refl; answers_are = refl };
  crossed_written = record {
    accepted = λ id. (λ room fits. rw le-leb, (rw own, rw own), (λ room fits. rw le-leb, (rw own, rw own), tt));
    put_is = refl;
  };
  crossed = record { clear_are = refl; answers_are = refl };
}

pub lost_frames : LostFrames
lost_frames = record {
  of_three = of_every_two OfThreeFrames 200 100 spelled_three;
  of_two = of_every_two OfTwoFrames 121 121 spelled_two;
}
