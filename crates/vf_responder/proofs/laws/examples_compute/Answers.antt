use Rattle.std.proofs.Common.{refl}
use Rattle.vf_responder.specs.Examples.{RunExamples}
use Rattle.vf_ber.specs.Reader.{digits_at, parts_at, ended_at, value_at, reading}
use Rattle.vf_upper_grammar.specs.Faults.{some_in as some_faults}
use Rattle.vf_upper_grammar.specs.Meanings.{values_in, values}
use Rattle.vf_upper_grammar.specs.Parts.{after_end_in, after_end, first_part, parts_in as grammar_parts, parts_of}
use Rattle.vf_upper_grammar.specs.Texts.{typed, one, some_in, some, segments_in, segments}
use Rattle.vf_pdu.specs.PduRows.{row_of}
use Rattle.vf_pdu_fields.specs.Reading.{part_here, parts_after, each_shape, slot_at, field_at, next_place, end_at}
use Rattle.vf_elements.specs.Messages.{message_in}
use Rattle.vf_base.specs.Calendar.{year_of, month_of, civil_date}
use Rattle.vf_session_spdu.specs.Parts.{parts_in}
use Rattle.vf_tpkt.specs.Parameters.{sizes_in}
use Rattle.vf_tpkt.specs.Receiving.{receiving_in}
use Rattle.vf_tpkt.specs.Sending.{sent_in}
use Rattle.vf_tpkt.specs.Stream.{tpdus_in}
use Rattle.vf_responder.proofs.laws.examples_compute.Goals as goal

-- src/laws.rt:5:1
pub returns : goal.returns
unfolding digits_at parts_at ended_at value_at reading some_faults values_in values after_end_in after_end first_part grammar_parts parts_of typed one some_in some segments_in segments row_of part_here parts_after each_shape slot_at field_at next_place end_at message_in year_of month_of civil_date sizes_in receiving_in sent_in tpdus_in parts_in
returns c = (let examples : RunExamples = record {
  connection = refl;
  nowhere = refl;
  other_class_is_shut = refl;
  length_is_shut = refl;
  version_is_shut = refl;
  data_first_is_shut = refl;
  no_data_is_aborted = refl;
  disconnected_is_shut = refl;
  ended_hears_nothing = refl;
  all_stand = refl;
  one_too_many = refl;
  room_again = refl;
  unknown_file = refl;
  closing_is_aborted = refl;
} in examples)
