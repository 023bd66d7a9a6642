-- The numbers that tell chunks, and the causes of an ABORT or an ERROR, apart: each stands here, and nowhere else.
use Rattle.std.specs.Prelude.{ℕ}

-- the types of chunks (RFC 9260 section 3.2, table 1)
abbrev pub data_type : ℕ
data_type = 0

abbrev pub init_type : ℕ
init_type = 1

abbrev pub init_ack_type : ℕ
init_ack_type = 2

abbrev pub sack_type : ℕ
sack_type = 3

abbrev pub heartbeat_type : ℕ
heartbeat_type = 4

abbrev pub heartbeat_ack_type : ℕ
heartbeat_ack_type = 5

abbrev pub abort_type : ℕ
abort_type = 6

abbrev pub shutdown_type : ℕ
shutdown_type = 7

abbrev pub shutdown_ack_type : ℕ
shutdown_ack_type = 8

abbrev pub error_type : ℕ
error_type = 9

abbrev pub cookie_echo_type : ℕ
cookie_echo_type = 10

abbrev pub cookie_ack_type : ℕ
cookie_ack_type = 11

abbrev pub shutdown_complete_type : ℕ
shutdown_complete_type = 14

-- the codes of causes (section 3.3.10, table 12)
abbrev pub invalid_stream_code : ℕ
invalid_stream_code = 1

abbrev pub stale_cookie_code : ℕ
stale_cookie_code = 3

abbrev pub unresolvable_address_code : ℕ
unresolvable_address_code = 5

abbrev pub unknown_chunk_code : ℕ
unknown_chunk_code = 6

abbrev pub unknown_parameters_code : ℕ
unknown_parameters_code = 8

abbrev pub no_user_data_code : ℕ
no_user_data_code = 9

abbrev pub cookie_shutting_code : ℕ
cookie_shutting_code = 10

abbrev pub user_abort_code : ℕ
user_abort_code = 12

abbrev pub protocol_violation_code : ℕ
protocol_violation_code = 13

-- the types of parameters that we write: what a HEARTBEAT carries (section 3.3.5), the state cookie and an unknown parameter (3.3.3)
abbrev pub heartbeat_info_type : ℕ
heartbeat_info_type = 1

abbrev pub state_cookie_type : ℕ
state_cookie_type = 7

abbrev pub unknown_parameter_type : ℕ
unknown_parameter_type = 8

-- and that we look for: a Host Name (3.3.2.1)
abbrev pub host_name_type : ℕ
host_name_type = 11
