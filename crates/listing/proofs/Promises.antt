-- The promises of order 7 hold: each statement of specs/Promises.antt is proved.
use Rattle.listing.specs.Promises
use Rattle.listing.proofs.Checked.{true_by_listed, accepted_over}
use Rattle.listing.proofs.Rooms.{no_part, exactly as given}
use Rattle.listing.proofs.Listing.{listed_exactly as exactly, listed_once as once, rightly_listed, one_more, text_listed}

pub true_by_the_listed : Promises.TrueByTheListed
true_by_the_listed I a z hold = true_by_listed I a z hold

pub accepted_over_the_listed : Promises.AcceptedOverTheListed
accepted_over_the_listed a small found = accepted_over a found small

pub answer_room_plays_no_part : Promises.AnswerRoomPlaysNoPart
answer_room_plays_no_part a room = no_part a room

pub given_exactly : Promises.GivenExactly
given_exactly a room = given a room

pub text_is_the_listed : Promises.TextIsTheListed
text_is_the_listed t steps = text_listed t steps

pub listed_exactly : Promises.ListedExactly
listed_exactly S steps c number = exactly S steps c number

pub listed_once : Promises.ListedOnce
listed_once t steps = once t steps

pub copies_are_right : Promises.CopiesAreRight
copies_are_right t steps l m = rightly_listed t steps l m

pub one_more_than_extensions : Promises.OneMoreThanExtensions
one_more_than_extensions S none steps c = one_more S steps c none
