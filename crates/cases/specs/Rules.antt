-- One name for all definitions of document 01's rules: a case that says `unfolding rules` computes with every one of them. Assumes nothing.
use Rattle.terms.specs.Counted.{every_from, lowest_from, sum_from, list_from, gather_from, holds, all}
use Rattle.entry.specs.Acts.{directory_sent, directory_came_home, directory_settled, remote_sent, remote_sent_home, remote_received_again, remote_settled}
use Rattle.entry.specs.AtNode.{holder_sent, sent, received, settled, may_go}
use Rattle.entry.specs.Fits.{fits_directory, fits_remote, fits_entry}
use Rattle.heap.specs.Heap.{fits_object, fits_roots, fits_heap}
use Rattle.heap.specs.Walk.{mark, held_by, pointed, rounds, reached}
use Rattle.table.specs.Depth.{depth_by, depth_report}
use Rattle.table.specs.Shape.{fits_cell, fits_message, fits_table}
use Rattle.step.specs.Clear.{clear}
use Rattle.step.specs.Collect.{counted, collect_torn, heap_collected, cell_collected, collect_holding, collect_keeping}
use Rattle.step.specs.Drop.{drop_of}
use Rattle.step.specs.Event.{kind_of, fits_event}
use Rattle.step.specs.Load.{load}
use Rattle.step.specs.Move.{move}
use Rattle.step.specs.New.{new}
use Rattle.step.specs.Receive.{receive_of}
use Rattle.step.specs.Send.{send}
use Rattle.step.specs.Settle.{settle_of}
use Rattle.step.specs.Step.{rule_for, step}
use Rattle.step.specs.Store.{store}
use Rattle.image.specs.Content.{fits_record, with_record}
use Rattle.image.specs.Reader.{record_of, read_from, read}
use Rattle.image.specs.Records.{kind_of_code}
use Rattle.image.specs.Writer.{records_of, bytes_of_all, image, put_answer, put_length, put_bytes, write_answer, write_length, write_bytes}
use Rattle.run.specs.Next.{next}
use Rattle.run.specs.Ran.{ran, run_bytes}
use Rattle.run.specs.Run.{summary, line, last_line, run_from, run_text, end_from, run_end}
use Rattle.run.specs.Text.{decimal}
use Rattle.etzvanul.specs.HostCall.{call_with, call_on, call_after, called, host_number, host_bytes}
use Rattle.etzvanul.specs.HostCall.{start_call, start_number, start_bytes, check_number, depth_call}

-- the value of each of these is of no use; what its line names is what a case opens

unfoldable counting : Type 1
unfolding every_from lowest_from sum_from list_from gather_from holds all
counting = Type 0

unfoldable acts : Type 1
unfolding directory_sent directory_came_home directory_settled remote_sent remote_sent_home remote_received_again remote_settled
acts = Type 0

unfoldable entries : Type 1
unfolding acts holder_sent sent received settled may_go fits_directory fits_remote fits_entry
entries = Type 0

unfoldable heaps : Type 1
unfolding fits_object fits_roots fits_heap mark held_by pointed rounds reached
heaps = Type 0

unfoldable tables : Type 1
unfolding depth_by depth_report fits_cell fits_message fits_table
tables = Type 0

unfoldable collecting : Type 1
unfolding counted collect_torn heap_collected cell_collected collect_holding collect_keeping
collecting = Type 0

unfoldable events : Type 1
unfolding collecting clear drop_of kind_of fits_event load move new receive_of send settle_of rule_for step store
events = Type 0

unfoldable reading : Type 1
unfolding fits_record with_record record_of read_from read kind_of_code
reading = Type 0

unfoldable writing : Type 1
unfolding records_of bytes_of_all image put_answer put_length put_bytes write_answer write_length write_bytes
writing = Type 0

unfoldable runs : Type 1
unfolding next ran run_bytes summary line last_line run_from run_text end_from run_end decimal
runs = Type 0

unfoldable calls : Type 1
unfolding call_with call_on call_after called host_number host_bytes start_call start_number start_bytes check_number depth_call
calls = Type 0

unfoldable pub rules : Type 1
unfolding counting entries heaps tables events reading writing runs calls
rules = Type 0
